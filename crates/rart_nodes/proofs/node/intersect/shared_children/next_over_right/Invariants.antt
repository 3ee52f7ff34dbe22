use Rattle.std.proofs.Common.{◌≡◌}
use Rattle.rart_nodes.specs.joins.SharedChildren.{shared_right}
use Rattle.rart_trie.specs.tries.TrieCode.{child_count}
use Rattle.rart_nodes.proofs.node.intersect.shared_children.next_over_right.Given as goal

abbrev pub invariant-loop-byte : goal.invariant-loop-byte
invariant-loop-byte g l = record {
  shared_children : shared_right l.fn.left.node.now l.fn.branches ≡ shared_right l.fn.left.node.now l.branches;
  visits : g.C.Count.number l.counter ≡ g.C.Count.number l.fn.counter;
}

abbrev pub decreases-loop-byte : goal.decreases-loop-byte
decreases-loop-byte g l = child_count l.branches
