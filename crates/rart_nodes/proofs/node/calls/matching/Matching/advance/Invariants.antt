use Rattle.std.proofs.Common.{◌≡◌, ◌≤◌, ◌+◌, length, option_map}
use Rattle.rart_nodes.specs.walks.Matches.{Descends, entered_ahead, matches_ahead}
use Rattle.rart_trie.specs.walks.Walk.{tree_count}
use Rattle.rart_nodes.proofs.node.calls.matching.Matching.advance.Given as goal

abbrev pub invariant-loop-node : goal.invariant-loop-node
invariant-loop-node g l = record {
  within : l.self.depth ≤ length l.probe;
  still : matches_ahead l.probe l.self.depth (option_map (λ s. s.node.now) l.self.below)
      ≡ matches_ahead l.probe l.fn.self.depth (option_map (λ s. s.node.now) l.fn.self.below);
  visits : g.C.Count.number l.counter + entered_ahead l.probe l.self.depth (option_map (λ s. s.node.now) l.self.below)
      ≡ g.C.Count.number l.fn.counter + entered_ahead l.probe l.fn.self.depth
      (option_map (λ s. s.node.now) l.fn.self.below);
  descends : Descends l.probe l.fn.self.depth (option_map (λ s. s.node.now) l.fn.self.below)
      (g.C.Count.number l.fn.counter) l.self.depth (option_map (λ s. s.node.now) l.self.below)
      (g.C.Count.number l.counter);
}

abbrev pub decreases-loop-node : goal.decreases-loop-node
decreases-loop-node g l = tree_count (option_map (λ s. s.node.now) l.self.below)
