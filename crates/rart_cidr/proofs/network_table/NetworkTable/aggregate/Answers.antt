use Rattle.std.proofs.Common.{◌≤◌, arith, ap, length, subst, sym}
use Rattle.std.specs.Prelude.{option_map}
use Rattle.rart_keys.specs.Filters.{longest_value}
use Rattle.rart_keys.specs.SortedMap.{lookup, without}
use Rattle.rart_cidr.specs.Aggregates.{AreCompared, KeepsMatches}
use Rattle.rart_cidr.proofs.routes.AggregateSteps.{Aggregating, aggregated, aggregating-first, kept-step}
use Rattle.rart_cidr.proofs.routes.AggregateSteps.{partly-aggregated, removed-step}
use Rattle.rart_cidr.proofs.network_table.NetworkTable.aggregate.Goals as goal

pub loop-at-init : goal.loop-at-init
loop-at-init g c = aggregating-first g.T.PartialEq.eq c.args.self.now _ c.first_net-at.ensures

pub loop-at-smaller-in_default-delete : goal.loop-at-smaller-in_default-delete
loop-at-smaller-in_default-delete g c =
    let n = g.N.Network.bits c.in-Some.net in
    let here = ap (option_map g.N.Network.bits) c.in-Some.is in let eq = g.T.PartialEq.eq in let cur = c.loop-at.self in
    rw here (removed-step eq n c.args.self.now cur (option_map g.N.Network.bits c.net_after-at.result) c.ascends.ensures
    c.ascends-in-Some.ensures (subst (Aggregating eq c.args.self.now cur) here c.loop-at.invariant)
    c.net_after-at.ensures (subst (AreCompared eq (lookup n cur) (longest_value n (without n cur)))
    c.if-is_covered_alike.true c.is_covered_alike.ensures) _ c.in_default-delete.ensures.removed).1

pub loop-at-preserved-in_default-delete : goal.loop-at-preserved-in_default-delete
loop-at-preserved-in_default-delete g c =
    let n = g.N.Network.bits c.in-Some.net in
    let here = ap (option_map g.N.Network.bits) c.in-Some.is in let eq = g.T.PartialEq.eq in let cur = c.loop-at.self in
    (removed-step eq n c.args.self.now cur (option_map g.N.Network.bits c.net_after-at.result) c.ascends.ensures
    c.ascends-in-Some.ensures (subst (Aggregating eq c.args.self.now cur) here c.loop-at.invariant)
    c.net_after-at.ensures (subst (AreCompared eq (lookup n cur) (longest_value n (without n cur)))
    c.if-is_covered_alike.true c.is_covered_alike.ensures) _ c.in_default-delete.ensures.removed).0

pub returns-in-Err : goal.returns-in-Err
returns-in-Err g c = let eq = g.T.PartialEq.eq in let e = c.in-Err.ensures in (
  e.memory.0,
  subst (KeepsMatches eq c.args.self.now) (sym e.unchanged)
      (partly-aggregated eq c.args.self.now c.loop-at.self _ c.ascends.ensures c.loop-at.invariant),
  subst (λ z. 5 ≤ length z) (sym e.unchanged) e.memory.1,
)

pub loop-at-smaller : goal.loop-at-smaller
loop-at-smaller g c =
    let n = g.N.Network.bits c.in-Some.net in
    let here = ap (option_map g.N.Network.bits) c.in-Some.is in let eq = g.T.PartialEq.eq in let cur = c.loop-at.self in
    rw here (kept-step eq n c.args.self.now cur (option_map g.N.Network.bits c.net_after-at.result) c.ascends.ensures
    c.ascends-in-Some.ensures (subst (Aggregating eq c.args.self.now cur) here c.loop-at.invariant)
    c.net_after-at.ensures (subst (AreCompared eq (lookup n cur) (longest_value n (without n cur)))
    c.if-is_covered_alike.false c.is_covered_alike.ensures)).1

pub loop-at-preserved : goal.loop-at-preserved
loop-at-preserved g c =
    let n = g.N.Network.bits c.in-Some.net in
    let here = ap (option_map g.N.Network.bits) c.in-Some.is in let eq = g.T.PartialEq.eq in let cur = c.loop-at.self in
    (kept-step eq n c.args.self.now cur (option_map g.N.Network.bits c.net_after-at.result) c.ascends.ensures
    c.ascends-in-Some.ensures (subst (Aggregating eq c.args.self.now cur) here c.loop-at.invariant)
    c.net_after-at.ensures (subst (AreCompared eq (lookup n cur) (longest_value n (without n cur)))
    c.if-is_covered_alike.false c.is_covered_alike.ensures)).0

pub overflow_sub-result : goal.overflow_sub-result
overflow_sub-result g c =
    let a = aggregated g.T.PartialEq.eq c.args.self.now c.loop-at.self
    (subst (Aggregating g.T.PartialEq.eq c.args.self.now c.loop-at.self)
    (ap (option_map g.N.Network.bits) c.in_default.is) c.loop-at.invariant) in
    let few = a.2 in
    let old = c.len-before.ensures.value in
    let new = c.len.ensures.value in
    omega (arith, few, old, new)

pub returns : goal.returns
returns g c =
    let a = aggregated g.T.PartialEq.eq c.args.self.now c.loop-at.self
    (subst (Aggregating g.T.PartialEq.eq c.args.self.now c.loop-at.self)
    (ap (option_map g.N.Network.bits) c.in_default.is) c.loop-at.invariant) in
    let few = a.2 in let old = c.len-before.ensures.value in let new = c.len.ensures.value in
    (a.0, a.1, omega (arith, few, old, new))
