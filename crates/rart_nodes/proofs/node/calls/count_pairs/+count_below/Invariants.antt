use Rattle.std.proofs.Common.{◌≡◌, ◌+◌, ◌++◌, ◌≤◌, length}
use Rattle.rart_trie.specs.tries.Trie.{children_in, children_pairs, own_pair, value_of}
use Rattle.rart_trie.specs.tries.TrieCode.{child_count, node_count}
use Rattle.rart_nodes.proofs.node.calls.count_pairs.+count_below.Given as goal

abbrev pub decreases-count_below : goal.decreases-count_below
decreases-count_below g l = node_count l.node.node.now

abbrev pub invariant-loop-child : goal.invariant-loop-child
invariant-loop-child g l = record {
  count : l.count + length (children_pairs l.rest)
      ≡ length (own_pair (value_of l.fn.node.node.now) ++ children_pairs (children_in l.fn.node.node.now));
  visits : g.C.Count.number l.counter + child_count l.rest
      ≡ g.C.Count.number l.fn.counter + child_count (children_in l.fn.node.node.now);
  within : child_count l.rest ≤ child_count (children_in l.fn.node.node.now);
}

abbrev pub decreases-loop-child : goal.decreases-loop-child
decreases-loop-child g l = child_count l.rest
