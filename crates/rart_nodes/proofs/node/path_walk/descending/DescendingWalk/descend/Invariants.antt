use Rattle.std.proofs.Common.{◌≡◌, ◌≤◌, ◌<◌, ◌+◌, vec_capacity, option_map}
use Rattle.rart_trie.specs.walks.ProbeCount.{entered_nodes, tree_entered}
use Rattle.rart_trie.specs.walks.Walk.{tree_count}
use Rattle.rart_nodes.proofs.ranges.BoundDescents.{DescendsUntil}
use Rattle.rart_nodes.proofs.node.path_walk.descending.DescendingWalk.descend.Given as goal

abbrev pub invariant-loop-next : goal.invariant-loop-next
invariant-loop-next g l = record {
  descends : DescendsUntil g.T.Keeps.grown l.included l.self.longest (vec_capacity l.self.levels) l.fn.end
      l.fn.top.node.now (g.T.Path.kept l.path) l.self.levels.items (option_map (λ s. s.node.now) l.next) l.rest;
  reserved : l.self.longest ≤ g.T.Path.capacity l.path;
  requested : g.T.Path.requested l.path ≡ g.T.Path.requested l.fn.path;
  places : l.self.longest < vec_capacity l.self.levels;
  visits : g.C.Count.number l.counter + tree_entered l.rest (option_map (λ s. s.node.now) l.next)
      ≡ g.C.Count.number l.fn.counter + entered_nodes l.fn.end l.fn.top.node.now;
  longest : l.self.longest ≡ l.fn.self.longest;
  level_capacity : vec_capacity l.self.levels ≡ vec_capacity l.fn.self.levels;
}

abbrev pub decreases-loop-next : goal.decreases-loop-next
decreases-loop-next g l = tree_count (option_map (λ s. s.node.now) l.next)
