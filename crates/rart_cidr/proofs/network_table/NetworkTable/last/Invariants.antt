use Rattle.std.proofs.Common.{Some, length}
use Rattle.rart_cidr.proofs.walks.LastLemmas.{IsAmong}
use Rattle.rart_cidr.proofs.walks.PositionLemmas.{routes_at}
use Rattle.rart_cidr.proofs.network_table.NetworkTable.last.Given as goal

abbrev pub invariant-loop-next : goal.invariant-loop-next
invariant-loop-next g l = IsAmong l.self (g.N.Network.bits l.last.0, l.last.1.now)

abbrev pub decreases-loop-next : goal.decreases-loop-next
decreases-loop-next g l = length (routes_at (Some (g.N.Network.bits l.last.0, l.last.1.now)) l.self)
