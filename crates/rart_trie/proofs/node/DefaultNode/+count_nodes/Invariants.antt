use Rattle.rart_trie.proofs.tree_stats.CountLemmas.{Counting}
use Rattle.rart_trie.proofs.node.DefaultNode.+count_nodes.Given as goal

abbrev pub decreases-count_nodes : goal.decreases-count_nodes
decreases-count_nodes g l = goal.size-count_nodes g l

abbrev pub invariant-loop-byte : goal.invariant-loop-byte
invariant-loop-byte g l = record {
  can : (goal.iterator-loop-byte g).can_next l._byte-iterator;
  finite : (goal.iterator-loop-byte g).is_finite l._byte-iterator;
  counting : Counting l.fn.counts l.counts l.below l.self l._byte-iterator;
}
