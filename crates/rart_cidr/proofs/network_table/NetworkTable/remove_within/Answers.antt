use Rattle.std.proofs.Common.{◌<◌, ◌≤◌, arith, length, subst, sym}
use Rattle.std.specs.Prelude.{◌≢◌, []}
use Rattle.rart_keys.specs.Filters.{below}
use Rattle.rart_cidr.specs.tables.ManyEdits.{LeavesRest}
use Rattle.rart_cidr.proofs.routes.RemovalLemmas.{fewer-inside, leaves-all, leaves-more, left-none, some-inside}
use Rattle.rart_cidr.proofs.network_table.NetworkTable.remove_within.Goals as goal

pub loop-found-init : goal.loop-found-init
loop-found-init g c = leaves-all (g.N.Network.bits c.args.net.now) c.args.self.now

pub loop-found-smaller : goal.loop-found-smaller
loop-found-smaller g c = let q = g.N.Network.bits c.args.net.now in
    subst (λ z. length (below q z) < length (below q c.loop-found.self)) (sym c.in_default-delete.ensures.removed)
    (fewer-inside q (g.N.Network.bits c.in-Some.found) c.args.self.now c.loop-found.self c.ascends-in-Some.ensures
    c.in-Some.ensures)

pub loop-found-preserved : goal.loop-found-preserved
loop-found-preserved g c = let q = g.N.Network.bits c.args.net.now in
    subst (λ z. LeavesRest q c.args.self.now z) (sym c.in_default-delete.ensures.removed)
    (leaves-more q (g.N.Network.bits c.in-Some.found) c.args.self.now c.loop-found.self c.ascends-in-Some.ensures
    c.in-Some.ensures c.loop-found.invariant)

pub returns-in-Err : goal.returns-in-Err
returns-in-Err g c = let q = g.N.Network.bits c.args.net.now in let e = c.in-Err.ensures in (
  e.memory.0,
  subst (λ z. LeavesRest q c.args.self.now z) (sym e.unchanged) c.loop-found.invariant,
  subst (λ z. below q z ≢ []) (sym e.unchanged) (some-inside q (g.N.Network.bits c.in-Some.found) c.args.self.now
      c.loop-found.self c.ascends-in-Some.ensures c.in-Some.ensures),
  subst (λ z. 5 ≤ length z) (sym e.unchanged) e.memory.1,
)

pub overflow_sub-result : goal.overflow_sub-result
overflow_sub-result g c =
    let l = left-none (g.N.Network.bits c.args.net.now) c.args.self.now c.loop-found.self c.in_default.ensures
    c.loop-found.invariant in
    let sum = l.1 in
    let old = c.len-before.ensures.value in
    let new = c.len.ensures.value in
    omega (arith, sum, old, new)

pub returns : goal.returns
returns g c =
    let l = left-none (g.N.Network.bits c.args.net.now) c.args.self.now c.loop-found.self c.in_default.ensures
    c.loop-found.invariant in
    let sum = l.1 in let old = c.len-before.ensures.value in let new = c.len.ensures.value in
    (omega (arith, sum, old, new), l.0)
