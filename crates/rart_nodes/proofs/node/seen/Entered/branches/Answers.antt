use Rattle.rart_nodes.proofs.walks.PathLemmas.{below-canonical}
use Rattle.rart_nodes.proofs.node.seen.Entered.branches.Goals as goal

pub invariant_of-result : goal.invariant_of-result
invariant_of-result g c = rw c.iter.ensures.children
    (below-canonical c.args.self.node.now c.args.self.canonical)
