use Rattle.std.proofs.Common.{sym, ◌∙◌}
use Rattle.rart_nodes.proofs.joins.AlignmentLemmas.{Aligned, place-equal}
use Rattle.rart_nodes.proofs.joins.JoinPathLemmas.{path-stays}
use Rattle.rart_nodes.proofs.joins.LeafPairs.{leaves-apart}
use Rattle.rart_nodes.proofs.joins.VisitorLemmas.{back-again, can-aligned, can-start, given-leaves}
use Rattle.rart_nodes.proofs.node.intersect.intersect_leaves.Given.{Over}
use Rattle.rart_nodes.proofs.node.intersect.intersect_leaves.Goals.{After-grow}
use Rattle.rart_nodes.proofs.node.intersect.intersect_leaves.Goals as goal

pub returns-then-not-same_prefixes-clause-calls : goal.returns-then-not-same_prefixes-clause-calls
returns-then-not-same_prefixes-clause-calls g c =
    let apart = leaves-apart c.args.left.node.now c.args.right.node.now c.requires.left_leaf c.requires.right_leaf
    (λ e. absurd (cc (
      c.same_prefixes.ensures.1 (c.prefix.ensures ∙ e ∙ sym c.prefix-2.ensures),
      c.if-not-same_prefixes.true,
    ))) in
    rw apart (g.met.T.Visitor.lawful.gives_none _ _)

found : (g : Over) (c : After-grow g) → Aligned c.args.left.node.now c.args.right.node.now c.to_slice.result.now
    c.args.left.node.now c.args.right.node.now 0 0
found g c = place-equal c.args.left.node.now c.args.right.node.now c.to_slice.result.now 0 c.args.left.canonical
    (c.to_slice.ensures ∙ c.prefix-3.ensures)
    (sym c.prefix.ensures ∙ c.same_prefixes.ensures.0 c.if-not-same_prefixes.false ∙ c.prefix-2.ensures)

pub give_both-given-requires-clause-callable : goal.give_both-given-requires-clause-callable
give_both-given-requires-clause-callable g c =
    let laws = g.met.T.Visitor.lawful in
    let end = found g (goal.at.give_both-given-requires-clause-callable g c).After-grow in
    rw (c.value.ensures, c.value-2.ensures) (can-start _ _ laws _ _ _ _ _
    (can-aligned _ _ laws _ g.met.T.Visitor.deeper _ _ _ _ _ c.to_slice.result.now _ _ end.aligned c.grow.ensures
    c.requires.callable))

pub returns-clause-place : goal.returns-clause-place
returns-clause-place g c
    = back-again _ _ _ _ c.to_slice.result.now _ c.mark-mark.ensures c.grow.ensures (path-stays _) c.cut.ensures

pub returns-clause-calls : goal.returns-clause-calls
returns-clause-calls g c =
    let laws = g.met.T.Visitor.lawful in
    let end = found g (goal.at.returns-clause-calls g c).After-grow in
    let here = rw (c.value.ensures, c.value-2.ensures) at c.give_both-given.ensures.calls in
    given-leaves _ _ laws _ _ _ _ _ _ _ c.to_slice.result.now _ _ end.aligned c.grow.ensures c.requires.right_leaf here
