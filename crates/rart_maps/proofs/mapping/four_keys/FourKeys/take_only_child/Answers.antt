use Rattle.std.proofs.Common.{◌≡◌, ◌∙◌, [], arith, length, refl, set, sym}
use Rattle.std.proofs.lemmas.List.{length-set}
use Rattle.rart_maps.proofs.FourLemmas.{keys_length, keys_sorted, of_sorted}
use Rattle.rart_maps.proofs.SortedEdits.{one_removed}
use Rattle.rart_maps.proofs.SortedLemmas.{emptied, padded_alone}
use Rattle.rart_maps.proofs.mapping.four_keys.FourKeys.take_only_child.Goals as goal

pub invariant_of-self : goal.invariant_of-self
invariant_of-self g c =
    let s = keys_sorted c.args.children.now.items c.self.invariant c.self.view_is c.requires.each in
    let one : length c.args.children.now.items ≡ 1
    = omega (
      arith,
      keys_length c.args.children.now.items c.self.invariant c.self.view_is c.requires.each,
      c.requires.only,
    ) in
    of_sorted (emptied s (set c.self.inside.keys 0 255) [] (length-set c.self.inside.keys 0 255 ∙ c.self.invariant.full)
    refl 4 refl (padded_alone s one)) 0 refl

pub returns-clause-each : goal.returns-clause-each
returns-clause-each g c =
    let one : length c.args.children.now.items ≡ 1
    = omega (
      arith,
      keys_length c.args.children.now.items c.self.invariant c.self.view_is c.requires.each,
      c.requires.only,
    ) in
    rw c.remove.ensures.rest (sym (one_removed c.args.children.now.items one))
