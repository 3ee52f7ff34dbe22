use Rattle.std.proofs.Common.{length}
use Rattle.std.specs.Prelude.{option_map}
use Rattle.rart_cidr.specs.tables.TwoTables.{routes_from}
use Rattle.rart_cidr.proofs.routes.AggregateSteps.{Aggregating}
use Rattle.rart_cidr.proofs.network_table.NetworkTable.aggregate.Given as goal

abbrev pub invariant-loop-at : goal.invariant-loop-at
invariant-loop-at g l = Aggregating g.T.PartialEq.eq l.fn.self l.self (option_map g.N.Network.bits l.at)

abbrev pub decreases-loop-at : goal.decreases-loop-at
decreases-loop-at g l = length (routes_from (option_map g.N.Network.bits l.at) l.self)
