use Rattle.std.proofs.Common.{length}
use Rattle.rart_keys.specs.Filters.{below}
use Rattle.rart_cidr.specs.tables.ManyEdits.{LeavesRest}
use Rattle.rart_cidr.proofs.network_table.NetworkTable.remove_within.Given as goal

abbrev pub invariant-loop-found : goal.invariant-loop-found
invariant-loop-found g l = LeavesRest (g.N.Network.bits l.net) l.fn.self l.self

abbrev pub decreases-loop-found : goal.decreases-loop-found
decreases-loop-found g l = length (below (g.N.Network.bits l.net) l.self)
