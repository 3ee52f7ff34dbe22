use Rattle.std.proofs.Common.{◌≡◌, ◌∙◌, ap, of_calls, refl, rules, sym, Some}
use Rattle.std.specs.Option.{option_copied_mut}
use Rattle.rart_keys.specs.SortedMap.{lookup}
use Rattle.rart.proofs.tree.AdaptiveRadixTree.merge_value.Goals as goal

pub f-requires : goal.f-requires
f-requires g c = c.requires.callable c.args.key c.in-Some.stored refl
    (sym c.get_mut_k.ensures.value ∙ ap option_copied_mut c.in-Some.is)

pub returns : goal.returns
returns g c =
    let was : lookup (g.K.KeyTrait.bytes c.args.key.now) c.args.self.now.pairs ≡ Some c.in-Some.stored.now
    = sym c.get_mut_k.ensures.value ∙ ap option_copied_mut c.in-Some.is in
    let left = (rw c.in-Some.is at c.get_mut_k.follows.holds c.f.new.arg3).0 in
    rw (was, left) (c.f.new.arg3, (search (rules, of_calls), refl))
