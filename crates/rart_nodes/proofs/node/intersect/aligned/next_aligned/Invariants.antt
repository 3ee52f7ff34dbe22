use Rattle.std.proofs.Common.{◌+◌, ℕ, List}
use Rattle.rart_nodes.specs.joins.JoinPaths.{PathGrown}
use Rattle.rart_trie.specs.tries.TrieCode.{node_count}
use Rattle.rart_nodes.proofs.joins.AlignmentLemmas.{Place}
use Rattle.rart_nodes.proofs.node.intersect.aligned.next_aligned.Given as goal

abbrev pub invariant-loop-byte : goal.invariant-loop-byte
invariant-loop-byte g l = (p : List ℕ) × PathGrown l.fn.path p l.path
    × Place l.fn.left.node.now l.fn.right.node.now p l.left.node.now l.left_rest l.right.node.now l.right_rest
    (g.C.Count.number l.counter) (g.C.Count.number l.fn.counter)

abbrev pub decreases-loop-byte : goal.decreases-loop-byte
decreases-loop-byte g l = node_count l.left.node.now + node_count l.right.node.now
