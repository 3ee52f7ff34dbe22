use Rattle.std.proofs.Common.{◌+◌, length}
use Rattle.rart_cidr.proofs.walks.JoinSteps.{Joining}
use Rattle.rart_cidr.proofs.walks.PositionLemmas.{at_route, routes_at}
use Rattle.rart_cidr.proofs.network_table.NetworkTable.intersect_with_by_ref.Given as goal

abbrev pub invariant-loop-at : goal.invariant-loop-at
invariant-loop-at g l = Joining g.F.FnMut (λ net. g.N.Network.bits net.now) l.self l.other l.fn.f
    (at_route g.N.Network.bits l.at)
    (at_route g.N.Network.bits l.there) l.f

abbrev pub decreases-loop-at : goal.decreases-loop-at
decreases-loop-at g l = length (routes_at (at_route g.N.Network.bits l.at) l.self)
    + length (routes_at (at_route g.N.Network.bits l.there) l.other)
