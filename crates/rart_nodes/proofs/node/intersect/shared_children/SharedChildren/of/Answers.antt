use Rattle.rart_nodes.proofs.joins.SharedChildLemmas.{same-shared_children}
use Rattle.rart_nodes.proofs.node.intersect.shared_children.SharedChildren.of.Goals as goal

pub returns-then-num_children-clause-shared_children : goal.returns-then-num_children-clause-shared_children
returns-then-num_children-clause-shared_children g c = rw c.branches.ensures
    (same-shared_children c.args.left.node.now c.args.right.node.now c.args.left.canonical c.args.right.canonical)
