use Rattle.rart_nodes.proofs.joins.AlignmentLemmas.{fewer-left}
use Rattle.rart_nodes.proofs.node.intersect.shared_children.next_over_right.Goals as goal

pub loop-byte-smaller : goal.loop-byte-smaller
loop-byte-smaller g c = fewer-left _ _ _ _ c.in-Some.ensures
