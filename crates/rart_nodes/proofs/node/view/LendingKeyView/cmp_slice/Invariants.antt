use Rattle.std.proofs.Common.{◌≡◌}
use Rattle.std.specs.Cmp.Lexicographic.{slice_cmp}
use Rattle.std.specs.Ordering.{nat_cmp}
use Rattle.std.specs.Slice.Iter.{iter_rest}
use Rattle.rart_trie.specs.walks.Walk.{joined_bytes}
use Rattle.rart_nodes.specs.walks.PathParts.{lent_segments}
use Rattle.rart_nodes.proofs.node.view.LendingKeyView.cmp_slice.Given as goal

abbrev pub invariant-loop-segment : goal.invariant-loop-segment
invariant-loop-segment l =
    (goal.iterator-loop-segment).can_next l.segments × (goal.iterator-loop-segment).is_finite l.segments ×
    (slice_cmp nat_cmp (joined_bytes (lent_segments (iter_rest l.segments))) l.left
    ≡ slice_cmp nat_cmp (joined_bytes (lent_segments l.fn.self.segments.now)) l.fn.slice)
