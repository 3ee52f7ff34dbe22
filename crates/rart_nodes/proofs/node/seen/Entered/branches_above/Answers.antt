use Rattle.rart_trie.specs.tries.Trie.{children_in}
use Rattle.rart_nodes.proofs.walks.PathLemmas.{above-part, below-canonical}
use Rattle.rart_nodes.proofs.node.seen.Entered.branches_above.Goals as goal

pub invariant_of-result : goal.invariant_of-result
invariant_of-result g c =
    rw c.iter_above.ensures.children (above-part c.args.b 0 (children_in c.args.self.node.now)
    (below-canonical c.args.self.node.now c.args.self.canonical)).0
