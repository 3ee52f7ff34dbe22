use Rattle.std.proofs.Common.{◌≤◌, ◌+◌, length, reverse, vec_capacity}
use Rattle.std.specs.Option.{option_copied}
use Rattle.rart_trie.specs.walks.Walk.{IsWalk, nodes_below, entries_ahead}
use Rattle.rart_nodes.specs.walks.PathParts.{lent_segments, one_segment}
use Rattle.rart_nodes.specs.walks.ViewSegments.{AreViews}
use Rattle.rart_nodes.specs.walks.Viewed.{CanView, ViewsEach}
use Rattle.rart_nodes.proofs.node.calls.lending.for_each_view_of.Given as goal

abbrev pub invariant-loop-value : goal.invariant-loop-value
invariant-loop-value g l = record {
  callable : CanView g.F.FnMut l.f (entries_ahead one_segment (lent_segments l.path.segments.items)
      (option_copied l.walk.first) l.walk.levels.items);
  path : IsWalk l.walk.longest (vec_capacity l.walk.levels) (lent_segments l.path.segments.items)
      (reverse l.walk.levels.items);
  reserved : l.walk.longest ≤ vec_capacity l.path.segments;
  views : AreViews (entries_ahead one_segment (lent_segments l.path.segments.items) (option_copied l.walk.first)
      l.walk.levels.items);
  folds : (last : _) → ViewsEach g.F.FnMut l.f
      (entries_ahead one_segment (lent_segments l.path.segments.items) (option_copied l.walk.first) l.walk.levels.items)
      last
      → ViewsEach g.F.FnMut l.fn.f (entries_ahead one_segment (lent_segments l.fn.path.segments.items)
      (option_copied l.fn.walk.first) l.fn.walk.levels.items) last;
  visits : g.C.Count.number l.counter + nodes_below (reverse l.walk.levels.items) ≤ g.C.Count.number l.fn.counter
      + nodes_below (reverse l.fn.walk.levels.items);
}

abbrev pub decreases-loop-value : goal.decreases-loop-value
decreases-loop-value g l = length (entries_ahead one_segment (lent_segments l.path.segments.items)
    (option_copied l.walk.first) l.walk.levels.items)
