use Rattle.rart_trie.specs.tries.TrieCode.{child_count, node_count}
use Rattle.rart_nodes.proofs.walks.OutlineLemmas.{AreLast, IsWrittenTo}
use Rattle.rart_nodes.proofs.node.outline.+write_below.Given as goal

abbrev pub decreases-write_below : goal.decreases-write_below
decreases-write_below g l = node_count l.at.node.now

abbrev pub invariant-loop-child : goal.invariant-loop-child
invariant-loop-child g l = record {
  written : IsWrittenTo g.W.Write.write_str_gives g.V.Display.output l.fn.level l.fn.at.node.now l.rest l.fn.f l.f;
  last : AreLast l.fn.at.node.now l.rest;
}

abbrev pub decreases-loop-child : goal.decreases-loop-child
decreases-loop-child g l = child_count l.rest
