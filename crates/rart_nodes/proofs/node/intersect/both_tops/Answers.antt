use Rattle.std.specs.Option.{option_copied}
use Rattle.rart_nodes.proofs.joins.JointVisits.{joined-right_none}
use Rattle.rart_nodes.proofs.node.intersect.both_tops.Goals as goal

pub returns-in_err-right_top : goal.returns-in_err-right_top
returns-in_err-right_top g c = rw c.from_residual-in_err-right_top.ensures
    (joined-right_none (option_copied c.args.left.root) (option_copied c.args.right.root) c.in_err-right_top.ensures)
