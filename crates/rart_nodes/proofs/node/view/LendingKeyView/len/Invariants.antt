use Rattle.std.proofs.Common.{◌≡◌, ◌+◌, length}
use Rattle.std.specs.Slice.Iter.{iter_rest}
use Rattle.rart_trie.specs.walks.Walk.{joined_bytes}
use Rattle.rart_nodes.specs.walks.PathParts.{lent_segments}
use Rattle.rart_nodes.proofs.node.view.LendingKeyView.len.Given as goal

abbrev pub invariant-loop-segment : goal.invariant-loop-segment
invariant-loop-segment l =
    (goal.iterator-loop-segment).can_next l.segments × (goal.iterator-loop-segment).is_finite l.segments ×
    (l.len + length (joined_bytes (lent_segments (iter_rest l.segments)))
    ≡ length (joined_bytes (lent_segments l.fn.self.segments.now)))
