use Rattle.rart_nodes.proofs.joins.PartedLemmas.{parted}
use Rattle.rart_nodes.proofs.node.intersect.aligned.part.Goals as goal

pub returns : goal.returns
returns c = parted c.args.left.now c.args.right.now c.common_prefix_length-shared.result
    c.common_prefix_length-shared.ensures.greatest
