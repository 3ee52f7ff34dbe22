use Rattle.std.proofs.Common.{◌≡◌}
use Rattle.rart_nodes.specs.joins.SharedChildren.{shared_left}
use Rattle.rart_trie.specs.tries.TrieCode.{child_count}
use Rattle.rart_nodes.proofs.node.intersect.shared_children.next_over_left.Given as goal

abbrev pub invariant-loop-byte : goal.invariant-loop-byte
invariant-loop-byte g l = record {
  shared_children : shared_left l.fn.branches l.fn.right.node.now ≡ shared_left l.branches l.fn.right.node.now;
  visits : g.C.Count.number l.counter ≡ g.C.Count.number l.fn.counter;
}

abbrev pub decreases-loop-byte : goal.decreases-loop-byte
decreases-loop-byte g l = child_count l.branches
