use Rattle.std.proofs.Common.{ap, refl}
use Rattle.std.specs.Prelude.{option_map}
use Rattle.rart_cidr.proofs.walks.RouteCallLemmas.{always-next, is-stored, step-kept, takes-next, visited, visiting-at}
use Rattle.rart_cidr.proofs.network_table.NetworkTable.for_each_value_mut_by_ref.Goals as goal

pub call_for-requires-clause-stored : goal.call_for-requires-clause-stored
call_for-requires-clause-stored g c = let here = ap (option_map g.N.Network.bits) c.in-Some.is in
    is-stored c.ascends-in-Some.ensures (visiting-at here c.loop-at.invariant.visiting)

pub call_for-requires-clause-callable : goal.call_for-requires-clause-callable
call_for-requires-clause-callable g c = let here = ap (option_map g.N.Network.bits) c.in-Some.is in
    takes-next c.ascends-in-Some.ensures (visiting-at here c.loop-at.invariant.visiting) c.requires.callable

pub loop-at-smaller : goal.loop-at-smaller
loop-at-smaller g c = let here = ap (option_map g.N.Network.bits) c.in-Some.is in
    rw here (step-kept c.ascends-in-Some.ensures (visiting-at here c.loop-at.invariant.visiting) c.call_for.ensures
    c.net_after-at.ensures refl).1

pub loop-at-preserved : goal.loop-at-preserved
loop-at-preserved g c =
    let v = visiting-at (ap (option_map g.N.Network.bits) c.in-Some.is) c.loop-at.invariant.visiting in record {
      visiting = (step-kept c.ascends-in-Some.ensures v c.call_for.ensures c.net_after-at.ensures refl).0;
      always = λ h. always-next c.ascends-in-Some.ensures v c.call_for.ensures (c.loop-at.invariant.always h);
    }

pub returns-clause-changes : goal.returns-clause-changes
returns-clause-changes g c
    = visited (visiting-at (ap (option_map g.N.Network.bits) c.in_default.is) c.loop-at.invariant.visiting)
