use Rattle.rart.specs.Unions.{union_of}
use Rattle.rart.proofs.trees.UnionCallLemmas.{always-after-either}
use Rattle.rart_cidr.proofs.walks.UnionSteps.{copied-alike, may-unite, united, uniting-first, uniting-next}
use Rattle.rart_cidr.proofs.network_table.NetworkTable.union_with_by_ref.Goals as goal

pub loop-next-init : goal.loop-next-init
loop-next-init g c = uniting-first g.F.FnMut (λ net. g.N.Network.bits net.now) c.args.self.now c.args.other.now
    c.args.f.now _ _ c.requires.callable c.first-at.ensures c.first-there.ensures

pub call_for_either-requires : goal.call_for_either-requires
call_for_either-requires g c
    = may-unite c.loop-next.invariant c.ascends.ensures c.ascends-2.ensures c.in-Some.ensures

pub loop-next-smaller : goal.loop-next-smaller
loop-next-smaller g c = (uniting-next c.loop-next.invariant c.ascends.ensures c.ascends-2.ensures c.in-Some.ensures
    c.is_some.result c.is_some-in-Some.result c.call_for_either.ensures
    (copied-alike c.in-Some.next.1 c.is_some.result c.is_some.ensures)
    (copied-alike c.in-Some.next.2 c.is_some-in-Some.result c.is_some-in-Some.ensures) c.after_if-at.ensures
    c.after_if-there.ensures).1

pub loop-next-preserved : goal.loop-next-preserved
loop-next-preserved g c = (uniting-next c.loop-next.invariant c.ascends.ensures c.ascends-2.ensures c.in-Some.ensures
    c.is_some.result c.is_some-in-Some.result c.call_for_either.ensures
    (copied-alike c.in-Some.next.1 c.is_some.result c.is_some.ensures)
    (copied-alike c.in-Some.next.2 c.is_some-in-Some.result c.is_some-in-Some.ensures) c.after_if-at.ensures
    c.after_if-there.ensures).0

pub returns-clause-calls : goal.returns-clause-calls
returns-clause-calls g c = united c.loop-next.invariant c.in_default.ensures

pub returns-clause-stays_callable : goal.returns-clause-stays_callable
returns-clause-stays_callable g c = always-after-either g.F.FnMut (λ net. g.N.Network.bits net.now) c.args.f.now
    (union_of c.args.self.now c.args.other.now) c.loop-next.f (returns-clause-calls g c)
