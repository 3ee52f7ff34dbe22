use Rattle.std.proofs.Common.{ap, length, subst, sym, ◌≤◌}
use Rattle.std.specs.Prelude.{option_map}
use Rattle.rart_cidr.specs.tables.RouteCalls.{EndsAtRefused}
use Rattle.rart_cidr.proofs.walks.RouteCallLemmas.{always-next, ends-refused, is-stored, step-kept, step-removed}
use Rattle.rart_cidr.proofs.walks.RouteCallLemmas.{takes-next, visited, visiting-at}
use Rattle.rart_cidr.proofs.network_table.NetworkTable.retain_by_ref.Goals as goal

pub call_for-requires-clause-stored : goal.call_for-requires-clause-stored
call_for-requires-clause-stored g c = let here = ap (option_map g.N.Network.bits) c.in-Some.is in
    is-stored c.ascends-in-Some.ensures (visiting-at here c.loop-at.invariant.visiting)

pub call_for-requires-clause-callable : goal.call_for-requires-clause-callable
call_for-requires-clause-callable g c = let here = ap (option_map g.N.Network.bits) c.in-Some.is in
    takes-next c.ascends-in-Some.ensures (visiting-at here c.loop-at.invariant.visiting) c.requires.callable

pub returns-in-Err-clause-stays_callable : goal.returns-in-Err-clause-stays_callable
returns-in-Err-clause-stays_callable g c = λ h. let here = ap (option_map g.N.Network.bits) c.in-Some.is in
    always-next c.ascends-in-Some.ensures (visiting-at here c.loop-at.invariant.visiting) c.call_for.ensures
    (c.loop-at.invariant.always h)

pub returns-in-Err-clause-retains : goal.returns-in-Err-clause-retains
returns-in-Err-clause-retains g c =
    let v = visiting-at (ap (option_map g.N.Network.bits) c.in-Some.is) c.loop-at.invariant.visiting in (
      c.in-Err.ensures.memory.0,
      subst (λ z. 5 ≤ length z) (sym c.in-Err.ensures.unchanged) c.in-Err.ensures.memory.1,
      subst (λ z. EndsAtRefused g.F.FnMut g.N.Network.bits c.args.f.now c.args.self.now z c.call_for.new.f)
          (sym c.in-Err.ensures.unchanged)
          (ends-refused c.ascends-in-Some.ensures v c.call_for.ensures c.if-not-call_for.true),
    )

pub loop-at-smaller-in_default-delete : goal.loop-at-smaller-in_default-delete
loop-at-smaller-in_default-delete g c = let here = ap (option_map g.N.Network.bits) c.in-Some.is in
    rw here (step-removed c.ascends-in-Some.ensures (visiting-at here c.loop-at.invariant.visiting) c.call_for.ensures
    c.net_after-at.ensures c.if-not-call_for.true c.in_default-delete.ensures.removed).1

pub loop-at-preserved-in_default-delete : goal.loop-at-preserved-in_default-delete
loop-at-preserved-in_default-delete g c =
    let v = visiting-at (ap (option_map g.N.Network.bits) c.in-Some.is) c.loop-at.invariant.visiting in record {
      visiting = (step-removed c.ascends-in-Some.ensures v c.call_for.ensures c.net_after-at.ensures
          c.if-not-call_for.true c.in_default-delete.ensures.removed).0;
      always = λ h. always-next c.ascends-in-Some.ensures v c.call_for.ensures (c.loop-at.invariant.always h);
    }

pub loop-at-smaller : goal.loop-at-smaller
loop-at-smaller g c = let here = ap (option_map g.N.Network.bits) c.in-Some.is in
    rw here (step-kept c.ascends-in-Some.ensures (visiting-at here c.loop-at.invariant.visiting) c.call_for.ensures
    c.net_after-at.ensures c.if-not-call_for.false).1

pub loop-at-preserved : goal.loop-at-preserved
loop-at-preserved g c =
    let v = visiting-at (ap (option_map g.N.Network.bits) c.in-Some.is) c.loop-at.invariant.visiting in record {
      visiting = (step-kept c.ascends-in-Some.ensures v c.call_for.ensures c.net_after-at.ensures
          c.if-not-call_for.false).0;
      always = λ h. always-next c.ascends-in-Some.ensures v c.call_for.ensures (c.loop-at.invariant.always h);
    }

pub returns-clause-retains : goal.returns-clause-retains
returns-clause-retains g c
    = visited (visiting-at (ap (option_map g.N.Network.bits) c.in_default.is) c.loop-at.invariant.visiting)
