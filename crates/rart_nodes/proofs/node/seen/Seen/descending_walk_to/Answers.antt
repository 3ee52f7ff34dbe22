use Rattle.std.proofs.Common.{arith}
use Rattle.rart_trie.proofs.edits.Outcomes.{err-any}
use Rattle.rart_trie.proofs.tries.StepLemmas.{root-entered}
use Rattle.rart_nodes.proofs.walks.WalkLemmas.{has-pairs}
use Rattle.rart_nodes.proofs.node.seen.Seen.descending_walk_to.Goals as goal

pub returns-in_err-path-clause-allocates : goal.returns-in_err-path-clause-allocates
returns-in_err-path-clause-allocates g c = err-any c.from_residual.result
    (has-pairs c.in-Some.top.node.now _ c.in-Some.top.canonical c.in-Some.ensures)

pub returns-clause-visits : goal.returns-clause-visits
returns-clause-visits g c =
    let root = root-entered c.args.end.now c.in-Some.top.node.now _ c.in-Some.top.canonical c.in-Some.ensures in
    omega (arith, c.descend.ensures.visits, root.0)

pub returns-clause-bound : goal.returns-clause-bound
returns-clause-bound g c =
    let root = root-entered c.args.end.now c.in-Some.top.node.now _ c.in-Some.top.canonical c.in-Some.ensures in
    omega (arith, c.descend.ensures.visits, root.1)
