use Rattle.std.proofs.Common.{sym}
use Rattle.rart_trie.proofs.tries.NodeCounts.{few_nodes}
use Rattle.rart_trie.proofs.tries.PairLemmas.{pairs_of-ascend, lookup-pairs_of}
use Rattle.rart_trie.proofs.tries.ProbeLemmas.{entered_nodes-probe_count}
use Rattle.rart_trie.proofs.shapes.ShapeLemmas.{nodes_of-shape, equal_nodes}
use Rattle.rart_laws.proofs.canonical_trie.Goals as goal

pub returns : goal.returns
returns g c = record {
  pairs_ascend = pairs_of-ascend;
  looks_up = λ k t w. sym (lookup-pairs_of k t w);
  shape = nodes_of-shape;
  equal_keys = equal_nodes;
  few_nodes = few_nodes;
  visits = entered_nodes-probe_count;
}
