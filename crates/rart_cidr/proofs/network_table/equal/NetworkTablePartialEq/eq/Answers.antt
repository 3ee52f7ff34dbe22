use Rattle.std.proofs.Common.{ap, refl, ◌∙◌}
use Rattle.rart_cidr.proofs.routes.EqualLemmas.{comparing-at, comparing-first, comparing-next, fewer-compared}
use Rattle.rart_cidr.proofs.routes.EqualLemmas.{found-other, none-here, none-test, none-there}
use Rattle.rart_cidr.proofs.walks.PositionLemmas.{at_route}
use Rattle.rart_cidr.proofs.network_table.equal.NetworkTablePartialEq.eq.Goals as goal

pub loop-at-init : goal.loop-at-init
loop-at-init g c = comparing-first g.T.PartialEq.eq c.args.self.now c.args.other.now _ _ c.first-at.ensures
    c.first-there.ensures

pub returns-in_default-there : goal.returns-in_default-there
returns-in_default-there g c = none-there c.ascends.ensures
    (comparing-at (ap (at_route g.N.Network.bits) c.in-Some.is) (ap (at_route g.N.Network.bits) c.in_default-there.is)
    c.loop-at.invariant)

pub returns-then-not-is_same_route : goal.returns-then-not-is_same_route
returns-then-not-is_same_route g c = found-other c.ascends.ensures c.ascends-2.ensures
    (comparing-at (ap (at_route g.N.Network.bits) c.in-Some.is) (ap (at_route g.N.Network.bits) c.in-Some-there.is)
    c.loop-at.invariant) c.if-not-is_same_route.ensures

pub loop-at-smaller : goal.loop-at-smaller
loop-at-smaller g c = let here = ap (at_route g.N.Network.bits) c.in-Some.is in
    rw here (fewer-compared c.ascends.ensures
    (comparing-at here (ap (at_route g.N.Network.bits) c.in-Some-there.is) c.loop-at.invariant)
    c.first_after-at.ensures)

pub loop-at-preserved : goal.loop-at-preserved
loop-at-preserved g c = comparing-next c.ascends.ensures c.ascends-2.ensures
    (comparing-at (ap (at_route g.N.Network.bits) c.in-Some.is) (ap (at_route g.N.Network.bits) c.in-Some-there.is)
    c.loop-at.invariant) c.if-not-is_same_route.ensures c.first_after-at.ensures c.first_after-there.ensures

pub returns : goal.returns
returns g c = none-test (λ p. (g.N.Network.bits p.0, p.1.now)) c.loop-at.there c.is_none.result c.is_none.ensures
    ∙ none-here c.ascends-2.ensures _
    (comparing-at (ap (at_route g.N.Network.bits) c.in_default.is) refl c.loop-at.invariant)
