use Rattle.rart_cidr.proofs.routes.RouteLemmas.{routes-ascend}
use Rattle.rart_cidr.proofs.table.BitTable.ascends.Goals as goal

pub returns : goal.returns
returns g c = rw (← c.self.view_is) (routes-ascend c.self.inside.strides.pairs)
