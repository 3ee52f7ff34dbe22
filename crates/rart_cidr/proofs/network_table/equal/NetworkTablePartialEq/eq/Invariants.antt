use Rattle.std.proofs.Common.{length}
use Rattle.rart_cidr.proofs.routes.EqualLemmas.{Comparing}
use Rattle.rart_cidr.proofs.walks.PositionLemmas.{at_route, routes_at}
use Rattle.rart_cidr.proofs.network_table.equal.NetworkTablePartialEq.eq.Given as goal

abbrev pub invariant-loop-at : goal.invariant-loop-at
invariant-loop-at g l = Comparing g.T.PartialEq.eq l.self l.other
    (at_route g.N.Network.bits l.at)
    (at_route g.N.Network.bits l.there)

abbrev pub decreases-loop-at : goal.decreases-loop-at
decreases-loop-at g l = length (routes_at (at_route g.N.Network.bits l.at) l.self)
