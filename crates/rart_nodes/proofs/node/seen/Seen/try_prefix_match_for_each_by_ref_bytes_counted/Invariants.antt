use Rattle.std.proofs.Common.{◌≡◌, ◌≤◌, ◌+◌, length, option_map}
use Rattle.std.specs.Option.{option_copied}
use Rattle.rart_keys.specs.Filters.{matches}
use Rattle.rart_trie.specs.tries.Tree.{tree_pairs}
use Rattle.rart_nodes.specs.walks.Matches.{Descends, entered_ahead, matches_ahead}
use Rattle.rart_nodes.specs.walks.TriedMatches.{CanTryMatch, EndsMatches, EndsMatchesAt}
use Rattle.rart_trie.specs.walks.ProbeCount.{tree_entered}
use Rattle.rart_nodes.proofs.node.seen.Seen.try_prefix_match_for_each_by_ref_bytes_counted.Given as goal

abbrev pub invariant-loop-value : goal.invariant-loop-value
invariant-loop-value g l = record {
  callable : CanTryMatch g.F.FnMut l.f (matches_ahead l.probe l.matching.depth
      (option_map (λ s. s.node.now) l.matching.below));
  within : l.matching.depth ≤ length l.probe;
  ends : (r : _) (last : _) → EndsMatches g.F.FnMut l.f
      (matches_ahead l.probe l.matching.depth (option_map (λ s. s.node.now) l.matching.below)) r last
      → EndsMatches g.F.FnMut l.fn.f (matches l.probe (tree_pairs (option_copied l.fn.self.root))) r last;
  ends_at : (r : _) (last : _) (end : _) → EndsMatchesAt g.F.FnMut l.f
      (matches_ahead l.probe l.matching.depth (option_map (λ s. s.node.now) l.matching.below)) r last end
      → EndsMatchesAt g.F.FnMut l.fn.f (matches l.probe (tree_pairs (option_copied l.fn.self.root))) r last end;
  descends : Descends l.probe 0 (option_copied l.fn.self.root) (g.C.Count.number l.fn.counter) l.matching.depth
      (option_map (λ s. s.node.now) l.matching.below) (g.C.Count.number l.counter);
  visits : g.C.Count.number l.counter + entered_ahead l.probe l.matching.depth
      (option_map (λ s. s.node.now) l.matching.below)
      ≡ g.C.Count.number l.fn.counter + tree_entered l.probe (option_copied l.fn.self.root);
}

abbrev pub decreases-loop-value : goal.decreases-loop-value
decreases-loop-value g l = length (matches_ahead l.probe l.matching.depth
    (option_map (λ s. s.node.now) l.matching.below))
