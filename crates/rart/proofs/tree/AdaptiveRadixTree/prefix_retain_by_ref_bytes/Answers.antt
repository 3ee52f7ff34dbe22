use Rattle.std.proofs.Common.{◌≤◌, arith, length, refl}
use Rattle.std.proofs.Math.Nat.{le_trans}
use Rattle.rart_keys.specs.Filters.{below}
use Rattle.rart_nodes.specs.tries.SeenTrees.{seen_pairs}
use Rattle.rart.proofs.trees.FieldLemmas.{fields-kept, pairs-counted, recounted}
use Rattle.rart.proofs.tree.AdaptiveRadixTree.prefix_retain_by_ref_bytes.Goals as goal

pub of-seen-requires-clause-canonical : goal.of-seen-requires-clause-canonical
of-seen-requires-clause-canonical g c = rw c.as_ref.ensures.value c.retain_below-outcome.ensures.canonical

pub of-seen-requires-clause-bounds_keys : goal.of-seen-requires-clause-bounds_keys
of-seen-requires-clause-bounds_keys g c = rw c.as_ref.ensures.value
    (le_trans c.retain_below-outcome.ensures.longest_key c.self.invariant.short)

pub count_prefix_bytes_counted-after-requires : goal.count_prefix_bytes_counted-after-requires
count_prefix_bytes_counted-after-requires g c =
    let same = pairs-counted _ _ _ _ refl c.of-seen.ensures.root c.as_ref.ensures.value in
    let few : length (seen_pairs c.of-seen.result) ≤ c.self.inside.len = rw (same, c.self.invariant.counted)
    c.retain_below-outcome.ensures.count in
    omega arith

pub overflow_sub-removed : goal.overflow_sub-removed
overflow_sub-removed g c = (recounted (below c.args.prefix.now) c.self.inside.root _ _
    c.retain_below-outcome.new.root c.count_prefix_bytes-before.result c.count_prefix_bytes_counted-after.result
    c.self.inside.len
    (rw (← c.self.view_is) at c.count_prefix_bytes-before.ensures) c.count_prefix_bytes_counted-after.ensures.value
    c.of-seen.ensures.root
    c.as_ref.ensures.value c.retain_below-outcome.ensures.counts c.retain_below-outcome.ensures.count
    c.self.invariant.counted).shrunk

pub overflow_sub-len : goal.overflow_sub-len
overflow_sub-len g c = (recounted (below c.args.prefix.now) c.self.inside.root _ _
    c.retain_below-outcome.new.root c.count_prefix_bytes-before.result c.count_prefix_bytes_counted-after.result
    c.self.inside.len
    (rw (← c.self.view_is) at c.count_prefix_bytes-before.ensures) c.count_prefix_bytes_counted-after.ensures.value
    c.of-seen.ensures.root
    c.as_ref.ensures.value c.retain_below-outcome.ensures.counts c.retain_below-outcome.ensures.count
    c.self.invariant.counted).at_most

pub invariant_of-self : goal.invariant_of-self
invariant_of-self g c =
    let left = (recounted (below c.args.prefix.now) c.self.inside.root _ _
    c.retain_below-outcome.new.root c.count_prefix_bytes-before.result c.count_prefix_bytes_counted-after.result
    c.self.inside.len
    (rw (← c.self.view_is) at c.count_prefix_bytes-before.ensures) c.count_prefix_bytes_counted-after.ensures.value
    c.of-seen.ensures.root
    c.as_ref.ensures.value c.retain_below-outcome.ensures.counts c.retain_below-outcome.ensures.count
    c.self.invariant.counted).left in
    fields-kept _ _ _ _ _ _ _ c.self.invariant c.retain_below-outcome.ensures.canonical left (omega arith)
    c.retain_below-outcome.ensures.longest_key c.length_kept-self-inside.ensures.none
    c.length_kept-self-inside.ensures.some
