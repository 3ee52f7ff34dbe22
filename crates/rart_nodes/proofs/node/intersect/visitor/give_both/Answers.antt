use Rattle.rart_nodes.proofs.joins.VisitorLemmas.{can-one}
use Rattle.rart_nodes.proofs.node.intersect.visitor.give_both.Goals as goal

pub give-requires-clause-callable : goal.give-requires-clause-callable
give-requires-clause-callable g c = can-one _ _ g.met.T.Visitor.lawful _ _ _ _
    (rw (c.in-Some.is, c.in-Some-right.is) at c.requires.callable)
