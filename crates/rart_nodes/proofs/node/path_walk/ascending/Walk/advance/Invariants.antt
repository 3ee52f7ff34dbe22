use Rattle.std.proofs.Common.{◌≡◌, ℕ, ◌≤◌, ◌+◌, None, reverse, vec_capacity}
use Rattle.std.specs.Option.{option_copied}
use Rattle.rart_nodes.specs.ranges.Potential.{AreLow, potential}
use Rattle.rart_trie.specs.walks.Walk.{IsWalk, KeepsEach, nodes_below, entries_ahead, entries_below}
use Rattle.rart_nodes.proofs.walks.WalkLemmas.{work_left}
use Rattle.rart_nodes.proofs.walks.WalkVisits.{HasVisited}
use Rattle.rart_nodes.proofs.node.path_walk.ascending.Walk.advance.Given as goal

abbrev pub invariant-loop-self : goal.invariant-loop-self
invariant-loop-self g l = record {
  first : l.self.first ≡ None;
  path : IsWalk l.self.longest (vec_capacity l.self.levels) (g.T.Path.kept l.path) (reverse l.self.levels.items);
  reserved : l.self.longest ≤ g.T.Path.capacity l.path;
  requested : g.T.Path.requested l.path ≡ g.T.Path.requested l.fn.path;
  still : entries_below g.T.Keeps.grown (g.T.Path.kept l.path) (reverse l.self.levels.items)
      ≡ entries_ahead g.T.Keeps.grown (g.T.Path.kept l.fn.path) (option_copied l.fn.self.first) l.fn.self.levels.items;
  visits : g.C.Count.number l.counter + nodes_below (reverse l.self.levels.items)
      ≡ g.C.Count.number l.fn.counter + nodes_below (reverse l.fn.self.levels.items);
  longest : l.self.longest ≡ l.fn.self.longest;
  bound : KeepsEach g.T.Keeps.grown → HasVisited (g.C.Count.number l.fn.counter) (g.C.Count.number l.counter)
      (g.T.Path.kept l.path) (reverse l.self.levels.items);
  potential : g.C.Count.number l.counter + potential (reverse l.fn.self.levels.items) ≤ g.C.Count.number l.fn.counter
      + potential (reverse l.self.levels.items);
  low : (h : ℕ) → AreLow h (reverse l.fn.self.levels.items) → AreLow h (reverse l.self.levels.items);
}

abbrev pub decreases-loop-self : goal.decreases-loop-self
decreases-loop-self g l = work_left (reverse l.self.levels.items)
