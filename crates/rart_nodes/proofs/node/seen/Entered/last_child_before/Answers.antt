use Rattle.rart_trie.specs.tries.Trie.{children_in}
use Rattle.rart_trie.proofs.storages.UnderLemmas.{last-part}
use Rattle.rart_nodes.proofs.walks.PathLemmas.{below-canonical}
use Rattle.rart_nodes.proofs.node.seen.Entered.last_child_before.Goals as goal

pub invariant_of-child : goal.invariant_of-child
invariant_of-child g c = record {
  canonical = last-part c.args.end _ _ (children_in c.args.self.node.now)
      (below-canonical c.args.self.node.now c.args.self.canonical)
      c.in_ok-byte.ensures;
}
