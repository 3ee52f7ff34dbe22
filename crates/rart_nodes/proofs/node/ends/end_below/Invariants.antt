use Rattle.rart_trie.specs.tries.TrieCode.{node_count}
use Rattle.rart_nodes.proofs.ranges.EndPaths.{PathAfter}
use Rattle.rart_nodes.proofs.node.ends.end_below.Given as goal

abbrev pub invariant-loop-child : goal.invariant-loop-child
invariant-loop-child g l = PathAfter (g.P.Partial.bytes l.fn.start) l.end l.fn.top.node.now
    (g.C.Count.number l.fn.counter) (g.P.Partial.bytes l.path) l.at.node.now (g.C.Count.number l.counter)

abbrev pub decreases-loop-child : goal.decreases-loop-child
decreases-loop-child g l = node_count l.at.node.now
