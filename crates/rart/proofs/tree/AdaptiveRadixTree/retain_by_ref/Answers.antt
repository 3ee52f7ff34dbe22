use Rattle.std.proofs.Common.{◌≤◌, arith, length, refl}
use Rattle.std.proofs.Math.Nat.{le_trans}
use Rattle.rart_nodes.specs.tries.SeenTrees.{seen_pairs}
use Rattle.rart.proofs.trees.FieldLemmas.{fields-kept, pairs-counted}
use Rattle.rart.proofs.tree.AdaptiveRadixTree.retain_by_ref.Goals as goal

pub of-seen-requires-clause-canonical : goal.of-seen-requires-clause-canonical
of-seen-requires-clause-canonical g c = rw c.as_ref.ensures.value c.retain-outcome.ensures.canonical

pub of-seen-requires-clause-bounds_keys : goal.of-seen-requires-clause-bounds_keys
of-seen-requires-clause-bounds_keys g c = rw c.as_ref.ensures.value
    (le_trans c.retain-outcome.ensures.longest_key c.self.invariant.short)

pub count_pairs_counted-len-requires : goal.count_pairs_counted-len-requires
count_pairs_counted-len-requires g c =
    let same = pairs-counted _ _ _ _ refl c.of-seen.ensures.root c.as_ref.ensures.value in
    let few : length (seen_pairs c.of-seen.result) ≤ c.self.inside.len = rw (same, c.self.invariant.counted)
    c.retain-outcome.ensures.count in
    omega arith

pub invariant_of-self : goal.invariant_of-self
invariant_of-self g c =
    let counted = pairs-counted _ _ _ _ c.count_pairs_counted-len.ensures.value c.of-seen.ensures.root
    c.as_ref.ensures.value in
    fields-kept _ _ _ _ _ _ _ c.self.invariant c.retain-outcome.ensures.canonical counted
    (rw (counted, c.self.invariant.counted) c.retain-outcome.ensures.count)
    c.retain-outcome.ensures.longest_key c.length_kept-self-inside.ensures.none
    c.length_kept-self-inside.ensures.some
