use Rattle.std.proofs.Common.{ℕ, ◌≡◌, ◌≤◌, ◌+◌, ◌*◌, length, reverse, vec_capacity}
use Rattle.std.specs.Option.{option_copied}
use Rattle.rart_trie.specs.ranges.LentBounds.{lent_bound}
use Rattle.rart_nodes.specs.ranges.Potential.{AreLow, potential}
use Rattle.rart_trie.specs.ranges.Starts.{entries_to}
use Rattle.rart_trie.specs.walks.Walk.{IsWalk, entries_ahead, nodes_below}
use Rattle.rart_nodes.specs.walks.PathParts.{lent_segments, one_segment}
use Rattle.rart_nodes.specs.walks.TriedViews.{CanTryView, EndsViews, EndsViewsAfter}
use Rattle.rart_nodes.specs.walks.ViewSegments.{AreViews}
use Rattle.rart_nodes.proofs.node.calls.try_views.try_for_each_view_to.Given as goal

abbrev pub invariant-loop-value : goal.invariant-loop-value
invariant-loop-value g l = record {
  callable : CanTryView g.F.FnMut l.f (entries_to (lent_bound l.end)
      (entries_ahead one_segment (lent_segments l.path.segments.items) (option_copied l.walk.first)
      l.walk.levels.items));
  path : IsWalk l.walk.longest (vec_capacity l.walk.levels) (lent_segments l.path.segments.items)
      (reverse l.walk.levels.items);
  reserved : l.walk.longest ≤ vec_capacity l.path.segments;
  views : AreViews (entries_ahead one_segment (lent_segments l.path.segments.items) (option_copied l.walk.first)
      l.walk.levels.items);
  ends : (r : _) (last : _) → EndsViews g.F.FnMut l.f (entries_to (lent_bound l.end)
      (entries_ahead one_segment (lent_segments l.path.segments.items) (option_copied l.walk.first)
      l.walk.levels.items)) r last
      → EndsViews g.F.FnMut l.fn.f (entries_to (lent_bound l.end)
      (entries_ahead one_segment (lent_segments l.fn.path.segments.items) (option_copied l.fn.walk.first)
      l.fn.walk.levels.items)) r last;
  low : (h : ℕ) → AreLow h (reverse l.fn.walk.levels.items) → AreLow h (reverse l.walk.levels.items);
  counted : (k : ℕ) × (((n m : ℕ) (r : _) (last : _) → m ≡ k + n → EndsViewsAfter g.F.FnMut l.f
      (entries_to (lent_bound l.end) (entries_ahead one_segment (lent_segments l.path.segments.items)
      (option_copied l.walk.first) l.walk.levels.items)) n r last
      → EndsViewsAfter g.F.FnMut l.fn.f (entries_to (lent_bound l.end)
      (entries_ahead one_segment (lent_segments l.fn.path.segments.items) (option_copied l.fn.walk.first)
      l.fn.walk.levels.items)) m r last)
      × (g.C.Count.number l.counter + potential (reverse l.fn.walk.levels.items)
      ≤ g.C.Count.number l.fn.counter + 2 * k + potential (reverse l.walk.levels.items)));
  visits : g.C.Count.number l.counter + nodes_below (reverse l.walk.levels.items) ≤ g.C.Count.number l.fn.counter
      + nodes_below (reverse l.fn.walk.levels.items);
}

abbrev pub decreases-loop-value : goal.decreases-loop-value
decreases-loop-value g l = length (entries_ahead one_segment (lent_segments l.path.segments.items)
    (option_copied l.walk.first) l.walk.levels.items)
