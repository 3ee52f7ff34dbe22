use Rattle.std.proofs.Common.{◌≡◌, ◌≤◌, ◌+◌, ◌-◌, length, take, drop, option_map, IfSome}
use Rattle.std.specs.Option.{option_copied}
use Rattle.rart_keys.specs.Filters.{last_or, longest_match}
use Rattle.rart_trie.specs.tries.Tree.{tree_pairs}
use Rattle.rart_trie.specs.walks.Walk.{tree_count}
use Rattle.rart_nodes.specs.walks.Matches.{matches_ahead, entered_ahead}
use Rattle.rart_trie.specs.walks.ProbeCount.{tree_entered}
use Rattle.rart_nodes.proofs.node.seen.Seen.longest_prefix_len_bytes_counted.Given as goal

abbrev pub invariant-loop-next : goal.invariant-loop-next
invariant-loop-next g l = record {
  short : length l.rest ≤ length l.probe;
  ahead : l.rest ≡ drop (length l.probe - length l.rest) l.probe;
  found : IfSome l.last (λ p. p.0 ≤ length l.probe);
  still : last_or (option_map (λ p. (take p.0 l.probe, p.1.now)) l.last)
      (matches_ahead l.probe (length l.probe - length l.rest) (option_map (λ s. s.node.now) l.next))
      ≡ longest_match l.probe (tree_pairs (option_copied l.fn.self.root));
  visits : g.C.Count.number l.counter + entered_ahead l.probe (length l.probe - length l.rest)
      (option_map (λ s. s.node.now) l.next)
      ≡ g.C.Count.number l.fn.counter + tree_entered l.probe (option_copied l.fn.self.root);
}

abbrev pub decreases-loop-next : goal.decreases-loop-next
decreases-loop-next g l = tree_count (option_map (λ s. s.node.now) l.next)
