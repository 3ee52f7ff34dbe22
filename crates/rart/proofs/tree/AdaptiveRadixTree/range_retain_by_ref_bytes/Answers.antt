use Rattle.std.proofs.Common.{◌≤◌, arith, length, refl}
use Rattle.std.proofs.Math.Nat.{le_trans}
use Rattle.rart_keys.specs.Ranges.{between}
use Rattle.rart_trie.specs.ranges.LentBounds.{lent_bound}
use Rattle.rart_nodes.specs.tries.SeenTrees.{seen_pairs}
use Rattle.rart.proofs.trees.FieldLemmas.{fields-kept, pairs-counted, recounted}
use Rattle.rart.proofs.tree.AdaptiveRadixTree.range_retain_by_ref_bytes.Goals as goal

pub of-seen-requires-clause-canonical : goal.of-seen-requires-clause-canonical
of-seen-requires-clause-canonical g c = rw c.as_ref.ensures.value c.retain_within-outcome.ensures.canonical

pub of-seen-requires-clause-bounds_keys : goal.of-seen-requires-clause-bounds_keys
of-seen-requires-clause-bounds_keys g c = rw c.as_ref.ensures.value
    (le_trans c.retain_within-outcome.ensures.longest_key c.self.invariant.short)

pub count_range_bytes_counted-after-requires : goal.count_range_bytes_counted-after-requires
count_range_bytes_counted-after-requires g c =
    let same = pairs-counted _ _ _ _ refl c.of-seen.ensures.root c.as_ref.ensures.value in
    let few : length (seen_pairs c.of-seen.result) ≤ c.self.inside.len = rw (same, c.self.invariant.counted)
    c.retain_within-outcome.ensures.count in
    omega arith

pub overflow_sub-removed : goal.overflow_sub-removed
overflow_sub-removed g c = (recounted (between (lent_bound c.args.start) (lent_bound c.args.end)) c.self.inside.root _ _
    c.retain_within-outcome.new.root c.count_range_bytes-before.result c.count_range_bytes_counted-after.result
    c.self.inside.len
    (rw (← c.self.view_is) at c.count_range_bytes-before.ensures) c.count_range_bytes_counted-after.ensures.value
    c.of-seen.ensures.root
    c.as_ref.ensures.value c.retain_within-outcome.ensures.counts c.retain_within-outcome.ensures.count
    c.self.invariant.counted).shrunk

pub overflow_sub-len : goal.overflow_sub-len
overflow_sub-len g c = (recounted (between (lent_bound c.args.start) (lent_bound c.args.end)) c.self.inside.root _ _
    c.retain_within-outcome.new.root c.count_range_bytes-before.result c.count_range_bytes_counted-after.result
    c.self.inside.len
    (rw (← c.self.view_is) at c.count_range_bytes-before.ensures) c.count_range_bytes_counted-after.ensures.value
    c.of-seen.ensures.root
    c.as_ref.ensures.value c.retain_within-outcome.ensures.counts c.retain_within-outcome.ensures.count
    c.self.invariant.counted).at_most

pub invariant_of-self : goal.invariant_of-self
invariant_of-self g c =
    let left = (recounted (between (lent_bound c.args.start) (lent_bound c.args.end)) c.self.inside.root _ _
    c.retain_within-outcome.new.root c.count_range_bytes-before.result c.count_range_bytes_counted-after.result
    c.self.inside.len
    (rw (← c.self.view_is) at c.count_range_bytes-before.ensures) c.count_range_bytes_counted-after.ensures.value
    c.of-seen.ensures.root
    c.as_ref.ensures.value c.retain_within-outcome.ensures.counts c.retain_within-outcome.ensures.count
    c.self.invariant.counted).left in
    fields-kept _ _ _ _ _ _ _ c.self.invariant c.retain_within-outcome.ensures.canonical left (omega arith)
    c.retain_within-outcome.ensures.longest_key c.length_kept-self-inside.ensures.none
    c.length_kept-self-inside.ensures.some
