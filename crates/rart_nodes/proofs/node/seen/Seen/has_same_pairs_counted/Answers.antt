use Rattle.std.proofs.Common.{arith, ◌∙◌}
use Rattle.rart_nodes.proofs.joins.EqualLemmas.{nodes-of-root, none-beside-some, same-trees, some-beside-none}
use Rattle.rart_nodes.proofs.node.seen.Seen.has_same_pairs_counted.Goals as goal

pub returns-in-Some-Some-clause-value : goal.returns-in-Some-Some-clause-value
returns-in-Some-Some-clause-value g c =
    let below = rw (c.enter_pair.ensures.left, c.enter_pair.ensures.right) at c.same_nodes.ensures.value in
    below ∙ same-trees g.V.PartialEq.eq _ _ _ _ c.in-Some-Some.left.canonical c.in-Some-Some.right.canonical
    c.in-Some-Some.ensures c.in-Some-Some.ensures'

pub returns-in-Some-Some-clause-bound : goal.returns-in-Some-Some-clause-bound
returns-in-Some-Some-clause-bound g c =
    let left = rw c.enter_pair.ensures.left at c.same_nodes.ensures.left_visits in
    let right = rw c.enter_pair.ensures.right at c.same_nodes.ensures.right_visits in
    omega (
      arith,
      c.enter_pair.ensures.counted,
      left,
      right,
      nodes-of-root _ _ c.in-Some-Some.ensures,
      nodes-of-root _ _ c.in-Some-Some.ensures',
    )

pub returns-in-Some-None-clause-value : goal.returns-in-Some-None-clause-value
returns-in-Some-None-clause-value g c = some-beside-none g.V.PartialEq.eq _ _ _ c.in-Some-None.field-0-0.canonical
    (rw c.in-Some-None.is-0 at c.top.ensures) (rw c.in-Some-None.is-1 at c.top-2.ensures)

pub returns-in-Some-None-2-clause-value : goal.returns-in-Some-None-2-clause-value
returns-in-Some-None-2-clause-value g c = none-beside-some g.V.PartialEq.eq _ _ _
    c.in-Some-None.field-0-1.canonical (rw c.in-Some-None.is-0 at c.top.ensures)
    (rw c.in-Some-None.is-1 at c.top-2.ensures)
