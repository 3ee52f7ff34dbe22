use Rattle.std.proofs.Common.{◌≡◌, ◌∙◌, ap, refl, subst, Some, None}
use Rattle.std.specs.Option.{UnwrapsOrElse}
use Rattle.rart_keys.specs.SortedMap.{lookup, put}
use Rattle.rart.proofs.tree.AdaptiveRadixTree.get_or_insert_with_k.Goals as goal

pub unreachable-requires : goal.unreachable-requires
unreachable-requires g c =
    let k = g.K.KeyTrait.bytes c.args.key.now in
    let held = c.in_ok-hold_with.ensures.held in
    let e : None ≡ Some held.0
    = c.in-None.ensures.value ∙ ap (lookup k) held.2 ∙ c.sorted_map.ensures.put_at k held.0 c.args.self.now.pairs in
    cc

pub returns : goal.returns
returns g c =
    let k = g.K.KeyTrait.bytes c.args.key.now in
    let old = c.args.self.now.pairs in
    let held = c.in_ok-hold_with.ensures.held in
    let found : Some c.in-Some.value.now ≡ Some held.0
    = c.in-Some.ensures.value ∙ ap (lookup k) held.2 ∙ c.sorted_map.ensures.put_at k held.0 old in
    let same : held.0 ≡ c.in-Some.value.now = cc in (
      (
        refl,
        (λ w i. (rw c.in-Some.is at c.get_mut_k.follows.holds w).0 ∙ ap (put k w) held.2
            ∙ c.sorted_map.ensures.put_twice k held.0 w old c.canonical.ensures.ascending),
        tt,
      ),
      record {
        writes_back = tt;
        value = subst (UnwrapsOrElse (lookup k old) (g.F.FnOnce.post c.args.f tt)) same held.1;
        refused = tt;
      },
    )
