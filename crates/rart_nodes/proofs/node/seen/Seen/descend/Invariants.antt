use Rattle.std.proofs.Common.{◌≡◌, ◌+◌, option_map}
use Rattle.std.specs.Option.{option_copied}
use Rattle.rart_trie.specs.walks.ProbeCount.{tree_entered}
use Rattle.rart_trie.specs.tries.Tree.{tree_lookup}
use Rattle.rart_trie.specs.walks.Walk.{tree_count}
use Rattle.rart_nodes.proofs.node.seen.Seen.descend.Given as goal

abbrev pub invariant-loop-next : goal.invariant-loop-next
invariant-loop-next g l = record {
  value : tree_lookup l.rest (option_map (λ s. s.node.now) l.next)
      ≡ tree_lookup l.fn.key (option_copied l.fn.self.root);
  visits : g.C.Count.number l.counter + tree_entered l.rest (option_map (λ s. s.node.now) l.next)
      ≡ g.C.Count.number l.fn.counter + tree_entered l.fn.key (option_copied l.fn.self.root);
}

abbrev pub decreases-loop-next : goal.decreases-loop-next
decreases-loop-next g l = tree_count (option_map (λ s. s.node.now) l.next)
