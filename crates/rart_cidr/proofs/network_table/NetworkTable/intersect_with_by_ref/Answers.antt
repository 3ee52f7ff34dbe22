use Rattle.std.proofs.Common.{ap, refl, sym}
use Rattle.rart_cidr.proofs.walks.JoinSteps.{always-joined, joined, joined-there, joining-at, joining-equal}
use Rattle.rart_cidr.proofs.walks.JoinSteps.{joining-first, joining-greater, joining-less, may-call}
use Rattle.rart_cidr.proofs.walks.PositionLemmas.{at_route}
use Rattle.rart_cidr.proofs.network_table.NetworkTable.intersect_with_by_ref.Goals as goal

pub loop-at-init : goal.loop-at-init
loop-at-init g c = joining-first g.F.FnMut (λ net. g.N.Network.bits net.now) c.args.self.now c.args.other.now
    c.args.f.now _ _ c.requires.callable c.first-at.ensures c.first-there.ensures

pub call_for_both-requires : goal.call_for_both-requires
call_for_both-requires g c = may-call c.ascends.ensures c.ascends-2.ensures
    (joining-at (ap (at_route g.N.Network.bits) c.in-Some.is)
    (ap (at_route g.N.Network.bits) c.in-Some-there.is) c.loop-at.invariant) (sym c.in-Equal.ensures)

pub loop-at-smaller-in-Less : goal.loop-at-smaller-in-Less
loop-at-smaller-in-Less g c = let here = ap (at_route g.N.Network.bits) c.in-Some.is in
    let there = ap (at_route g.N.Network.bits) c.in-Some-there.is in
    rw (here, there) (joining-less c.ascends.ensures c.ascends-2.ensures (joining-at here there c.loop-at.invariant)
    (sym c.in-Less.ensures) c.first_at_or_after-at.ensures).1

pub loop-at-preserved-in-Less : goal.loop-at-preserved-in-Less
loop-at-preserved-in-Less g c = (joining-less c.ascends.ensures c.ascends-2.ensures
    (joining-at (ap (at_route g.N.Network.bits) c.in-Some.is)
    (ap (at_route g.N.Network.bits) c.in-Some-there.is) c.loop-at.invariant) (sym c.in-Less.ensures)
    c.first_at_or_after-at.ensures).0

pub loop-at-smaller-in-Equal : goal.loop-at-smaller-in-Equal
loop-at-smaller-in-Equal g c = let here = ap (at_route g.N.Network.bits) c.in-Some.is in
    let there = ap (at_route g.N.Network.bits) c.in-Some-there.is in
    rw (here, there) (joining-equal c.ascends.ensures c.ascends-2.ensures (joining-at here there c.loop-at.invariant)
    (sym c.in-Equal.ensures) c.call_for_both.ensures c.first_after-there.ensures).1

pub loop-at-preserved-in-Equal : goal.loop-at-preserved-in-Equal
loop-at-preserved-in-Equal g c = (joining-equal c.ascends.ensures c.ascends-2.ensures
    (joining-at (ap (at_route g.N.Network.bits) c.in-Some.is)
    (ap (at_route g.N.Network.bits) c.in-Some-there.is) c.loop-at.invariant) (sym c.in-Equal.ensures)
    c.call_for_both.ensures c.first_after-there.ensures).0

pub loop-at-smaller : goal.loop-at-smaller
loop-at-smaller g c = let here = ap (at_route g.N.Network.bits) c.in-Some.is in
    let there = ap (at_route g.N.Network.bits) c.in-Some-there.is in
    rw (here, there) (joining-greater c.ascends.ensures c.ascends-2.ensures
    (joining-at here there c.loop-at.invariant) (sym c.in-Greater.ensures) c.first_at_or_after-there.ensures).1

pub loop-at-preserved : goal.loop-at-preserved
loop-at-preserved g c = (joining-greater c.ascends.ensures c.ascends-2.ensures
    (joining-at (ap (at_route g.N.Network.bits) c.in-Some.is)
    (ap (at_route g.N.Network.bits) c.in-Some-there.is) c.loop-at.invariant) (sym c.in-Greater.ensures)
    c.first_at_or_after-there.ensures).0

pub returns-in_default-there-clause-calls : goal.returns-in_default-there-clause-calls
returns-in_default-there-clause-calls g c
    = joined-there (joining-at refl (ap (at_route g.N.Network.bits) c.in_default-there.is)
    c.loop-at.invariant)

pub returns-in_default-there-clause-stays_callable : goal.returns-in_default-there-clause-stays_callable
returns-in_default-there-clause-stays_callable g c = always-joined g.F.FnMut (λ net. g.N.Network.bits net.now)
    c.args.self.now c.args.other.now c.args.f.now c.loop-at.f (returns-in_default-there-clause-calls g c)

pub returns-clause-calls : goal.returns-clause-calls
returns-clause-calls g c
    = joined (joining-at (ap (at_route g.N.Network.bits) c.in_default.is) refl c.loop-at.invariant)

pub returns-clause-stays_callable : goal.returns-clause-stays_callable
returns-clause-stays_callable g c = always-joined g.F.FnMut (λ net. g.N.Network.bits net.now) c.args.self.now
    c.args.other.now c.args.f.now c.loop-at.f (returns-clause-calls g c)
