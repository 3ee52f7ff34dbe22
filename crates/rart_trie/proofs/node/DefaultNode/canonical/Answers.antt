use Rattle.rart_trie.proofs.tries.NodeCounts.{few_nodes}
use Rattle.rart_trie.proofs.tries.PairLemmas.{pairs_of-ascend}
use Rattle.rart_trie.proofs.shapes.ShapeLemmas.{nodes_of-shape}
use Rattle.rart_trie.proofs.node.DefaultNode.canonical.Goals as goal

pub returns : goal.returns
returns g c = record {
  ascending = pairs_of-ascend c.args.self.now c.requires;
  shape = nodes_of-shape c.args.self.now c.requires;
  few_nodes = few_nodes c.args.self.now c.requires;
}
