use Rattle.std.proofs.Common.{◌≡◌, ◌+◌, ◌≤◌}
use Rattle.rart_nodes.specs.tries.Equal.{same_children}
use Rattle.rart_trie.specs.tries.Trie.{children_in}
use Rattle.rart_trie.specs.tries.TrieCode.{child_count, node_count}
use Rattle.rart_nodes.proofs.node.equal.+same_nodes.Given as goal

abbrev pub decreases-same_nodes : goal.decreases-same_nodes
decreases-same_nodes g l = node_count l.left.node.now

abbrev pub invariant-loop-byte : goal.invariant-loop-byte
invariant-loop-byte g l = record {
  same : same_children g.V.PartialEq.eq (children_in l.fn.left.node.now) (children_in l.fn.right.node.now)
      ≡ same_children g.V.PartialEq.eq l.rest l.others;
  left : g.C.Count.number l.counter + child_count l.rest
      ≤ g.C.Count.number l.fn.counter + child_count (children_in l.fn.left.node.now);
  right : g.C.Count.number l.counter + child_count l.others
      ≤ g.C.Count.number l.fn.counter + child_count (children_in l.fn.right.node.now);
  within : child_count l.rest ≤ child_count (children_in l.fn.left.node.now);
}

abbrev pub decreases-loop-byte : goal.decreases-loop-byte
decreases-loop-byte g l = child_count l.rest
