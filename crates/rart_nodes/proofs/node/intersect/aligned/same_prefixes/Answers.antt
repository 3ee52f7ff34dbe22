use Rattle.rart_nodes.proofs.joins.AlignmentLemmas.{equal-ended, equal-never}
use Rattle.rart_nodes.proofs.node.intersect.aligned.same_prefixes.Goals as goal

pub returns-in-Some : goal.returns-in-Some
returns-in-Some g c = equal-ended _ _ _ _ _ c.in-Some.ensures c.to_slice.ensures c.is_empty.ensures

pub returns-in-None : goal.returns-in-None
returns-in-None g c = equal-never _ _ _ c.in-None.ensures c.to_slice.ensures
