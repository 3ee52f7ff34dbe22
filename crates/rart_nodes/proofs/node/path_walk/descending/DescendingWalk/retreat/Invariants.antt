use Rattle.std.proofs.Common.{◌≡◌, ◌≤◌, reverse, vec_capacity}
use Rattle.rart_nodes.specs.ranges.DescendingWalk.{IsDescendingWalk, remaining_entries}
use Rattle.rart_trie.specs.walks.Walk.{KeepsEach}
use Rattle.rart_nodes.proofs.ranges.DescendingVisits.{HasVisited}
use Rattle.rart_nodes.proofs.ranges.LevelLemmas.{work_after}
use Rattle.rart_nodes.proofs.node.path_walk.descending.DescendingWalk.retreat.Given as goal

abbrev pub invariant-loop-self : goal.invariant-loop-self
invariant-loop-self g l = record {
  path : IsDescendingWalk l.self.longest (vec_capacity l.self.levels) (g.T.Path.kept l.path) (reverse
      l.self.levels.items);
  reserved : l.self.longest ≤ g.T.Path.capacity l.path;
  requested : g.T.Path.requested l.path ≡ g.T.Path.requested l.fn.path;
  still : remaining_entries g.T.Keeps.grown (g.T.Path.kept l.path) (reverse l.self.levels.items)
      ≡ remaining_entries g.T.Keeps.grown (g.T.Path.kept l.fn.path) (reverse l.fn.self.levels.items);
  longest : l.self.longest ≡ l.fn.self.longest;
  bound : KeepsEach g.T.Keeps.grown → HasVisited (g.C.Count.number l.fn.counter) (g.C.Count.number l.counter)
      (g.T.Path.kept l.path) (reverse l.self.levels.items);
}

abbrev pub decreases-loop-self : goal.decreases-loop-self
decreases-loop-self g l = work_after (reverse l.self.levels.items)
