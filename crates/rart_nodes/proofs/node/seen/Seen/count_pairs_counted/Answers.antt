use Rattle.std.proofs.Common.{arith, ap, length}
use Rattle.rart_trie.specs.tries.Tree.{tree_pairs}
use Rattle.rart_trie.proofs.tries.CanonicalTests.{IsCanonical-test}
use Rattle.rart_nodes.proofs.joins.EqualLemmas.{nodes-of-root}
use Rattle.rart_nodes.proofs.walks.PartLemmas.{few-count}
use Rattle.rart_nodes.proofs.node.seen.Seen.count_pairs_counted.Goals as goal

pub returns-in-Some-clause-visits : goal.returns-in-Some-clause-visits
returns-in-Some-clause-visits g c =
    let below = rw c.enter-node.ensures.shown at c.count_below.ensures.visits in
    omega (arith, c.enter-node.ensures.counted, below, nodes-of-root _ _ c.in-Some.ensures)

pub returns-in-Some-clause-bound : goal.returns-in-Some-clause-bound
returns-in-Some-clause-bound g c =
    let below = rw c.enter-node.ensures.shown at c.count_below.ensures.visits in
    omega (
      arith,
      c.enter-node.ensures.counted,
      below,
      few-count c.in-Some.top.node.now (IsCanonical-test c.in-Some.top.node.now c.in-Some.top.canonical),
      ap (λ o. length (tree_pairs o)) c.in-Some.ensures,
    )
