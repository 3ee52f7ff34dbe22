use Rattle.std.proofs.Common.{[], Ok, arith}
use Rattle.rart_nodes.proofs.joins.VisitorLemmas.{back-again, can-aligned, can-next, can-others, can-rest, can-start}
use Rattle.rart_nodes.proofs.joins.VisitorLemmas.{given-aligned, given-end, given-ended, given-leaves, given-next}
use Rattle.rart_nodes.proofs.joins.VisitorLemmas.{next-shared_children, same-reserved, shared_children-within}
use Rattle.rart_nodes.proofs.joins.JoinPathLemmas.{path-stays, path-on}
use Rattle.rart_nodes.proofs.joins.LeafPairs.{leaves-unvisited}
use Rattle.rart_nodes.proofs.node.intersect.+intersect_below.Goals as goal

pub returns-in_default-clause-place : goal.returns-in_default-clause-place
returns-in_default-clause-place g t c =
    let found = c.in_default.ensures.aligned in
    back-again _ _ _ _ found.0 _ c.mark-mark.ensures found.1 (path-stays _) c.cut.ensures

pub give_both-requires-clause-reserved : goal.give_both-requires-clause-reserved
give_both-requires-clause-reserved g t c =
    let found = c.in-Some.ensures.aligned in
    g.met.T.Visitor.lawful.keeps_reserved _ _ found.0 _ 0 found.1 c.requires.reserved (omega (arith, found.2.short))

pub give_both-requires-clause-callable : goal.give_both-requires-clause-callable
give_both-requires-clause-callable g t c =
    let laws = g.met.T.Visitor.lawful in
    let found = c.in-Some.ensures.aligned in
    rw (c.value.ensures, c.value-2.ensures) (can-start _ _ laws _ _ _ _ _
    (can-aligned _ _ laws _ g.met.T.Visitor.deeper _ _ _ _ _ found.0 _ _ found.2 found.1 c.requires.callable))

-- the pair of the two nodes ended the walk
pub returns-in-Err-clause-calls : goal.returns-in-Err-clause-calls
returns-in-Err-clause-calls g t c =
    let found = c.in-Some.ensures.aligned in
    let here = rw (c.value.ensures, c.value-2.ensures) at c.in-Err.ensures.calls in
    given-ended _ _ g.met.T.Visitor.lawful _ _ _ _ _ _ _ found.0 _ _ found.2 found.1 here

pub returns-in-Err-clause-bound : goal.returns-in-Err-clause-bound
returns-in-Err-clause-bound g t c = omega (arith, c.in-Some.ensures.visits)

pub returns-then-has_no_children-clause-place : goal.returns-then-has_no_children-clause-place
returns-then-has_no_children-clause-place g t c =
    let found = c.in-Some.ensures.aligned in
    back-again _ _ _ _ found.0 _ c.mark-mark.ensures found.1 (path-stays _) c.cut-then-has_no_children.ensures

pub returns-then-has_no_children-clause-calls : goal.returns-then-has_no_children-clause-calls
returns-then-has_no_children-clause-calls g t c =
    let found = c.in-Some.ensures.aligned in
    let here = rw (c.value.ensures, c.value-2.ensures) at c.in-Ok.ensures.calls in
    given-leaves _ _ g.met.T.Visitor.lawful _ _ _ _ _ _ _ found.0 _ _ found.2 found.1
    (c.has_no_children.ensures.0 c.if-has_no_children.true) here

pub returns-then-has_no_children-clause-visits : goal.returns-then-has_no_children-clause-visits
returns-then-has_no_children-clause-visits g t c
    = omega (arith, (rw (c.has_no_children.ensures.0 c.if-has_no_children.true) at c.in-Some.ensures.visits))

pub returns-then-has_no_children-clause-bound : goal.returns-then-has_no_children-clause-bound
returns-then-has_no_children-clause-bound g t c
    = omega (arith, (rw (c.has_no_children.ensures.0 c.if-has_no_children.true) at c.in-Some.ensures.visits))

pub loop-child-init : goal.loop-child-init
loop-child-init g t c =
    let laws = g.met.T.Visitor.lawful in
    let found = c.in-Some.ensures.aligned in
    record {
      callable = rw c.of-shared_children.ensures.shared_children
          (can-rest _ _ laws _ _ _ _ _ _ (can-aligned _ _ laws _ g.met.T.Visitor.deeper _ _ _ _ _ found.0 _ _ found.2
          found.1 c.requires.callable) (rw (c.value.ensures, c.value-2.ensures) at c.in-Ok.ensures.calls));
      place = path-stays _;
      reserved = laws.keeps_reserved _ _ found.0 _ _ found.1 c.requires.reserved found.2.short;
      given = λ r last h. h;
      visits = rw c.of-shared_children.ensures.shared_children c.in-Some.ensures.visits;
      within = rw c.of-shared_children.ensures.shared_children
          (shared_children-within _ c.in-Some.left_aligned.node.now c.in-Some.right_aligned.node.now found.2.few);
    }

pub intersect_below-requires : goal.intersect_below-requires
intersect_below-requires g t c κs within =
    let laws = g.met.T.Visitor.lawful in
    let inv = c.loop-child.invariant in
    let next = next-shared_children _ _ _ _ _ _ c.in-Some-enter_next.ensures.shared_children inv.within in
    let reserved = same-reserved _ _ laws _ _ _ _ (path-stays _) inv.reserved next.short in
    let callable = can-next _ _ laws _ g.met.T.Visitor.deeper _ _ _ _ _ _ _ c.in-Some-enter_next.ensures.shared_children
    inv.place inv.callable in
    let w = within.1.1.1 in (
      omega (arith, c.decreases, next.falls),
      (within.0, (within.1.0, (within.1.1.0, (w.0, (w.1.0, (w.1.1.0, (w.1.1.1, (reserved, callable)))))))),
    )

-- a pair below the children ended the walk
pub returns-in-Err-intersect_below-clause-calls : goal.returns-in-Err-intersect_below-clause-calls
returns-in-Err-intersect_below-clause-calls g t c =
    let laws = g.met.T.Visitor.lawful in
    let found = c.in-Some.ensures.aligned in
    let inv = c.loop-child.invariant in
    let here = rw (c.value.ensures, c.value-2.ensures) at c.in-Ok.ensures.calls in
    let below = rw c.of-shared_children.ensures.shared_children at (inv.given _ _ (given-end _ _ laws _ _ _ _ _ _ _ _ _
    c.in-Some-enter_next.ensures.shared_children inv.place c.in-Err-intersect_below.ensures.calls)) in
    given-aligned _ _ laws _ _ _ _ _ _ _ _ found.0 _ _ found.2 found.1 here below

pub returns-in-Err-intersect_below-clause-bound : goal.returns-in-Err-intersect_below-clause-bound
returns-in-Err-intersect_below-clause-bound g t c =
    let inv = c.loop-child.invariant in
    let next = next-shared_children _ _ _ _ _ _ c.in-Some-enter_next.ensures.shared_children inv.within in
    omega (arith, inv.visits, next.visits, c.in-Some-enter_next.ensures.counted, c.intersect_below.ensures.bound)

pub loop-child-preserved : goal.loop-child-preserved
loop-child-preserved g t c =
    let laws = g.met.T.Visitor.lawful in
    let inv = c.loop-child.invariant in
    let next = next-shared_children _ _ _ _ _ _ c.in-Some-enter_next.ensures.shared_children inv.within in
    let below = c.in-Ok-intersect_below.ensures in
    record {
      callable = can-others _ _ laws _ g.met.T.Visitor.deeper _ _ _ _ _ _ _ _
          c.in-Some-enter_next.ensures.shared_children inv.place below.calls inv.callable;
      place = path-on _ _ _ [] [] inv.place below.place;
      reserved = laws.keeps_reserved _ _ [] _ _ below.place inv.reserved (omega arith);
      given = λ r last h. inv.given r last (given-next _ _ laws _ _ _ _ _ _ _ _ _ _
          c.in-Some-enter_next.ensures.shared_children inv.place below.calls h);
      visits = omega (arith, inv.visits, next.visits, c.in-Some-enter_next.ensures.counted, below.visits);
      within = next.others;
    }

pub intersect_leaves-requires-clause-reserved : goal.intersect_leaves-requires-clause-reserved
intersect_leaves-requires-clause-reserved g t c =
    let inv = c.loop-child.invariant in
    let next = next-shared_children _ _ _ _ _ _ c.in-Some-enter_next.ensures.shared_children inv.within in
    same-reserved _ _ g.met.T.Visitor.lawful _ _ _ _ (path-stays _) inv.reserved next.short

pub intersect_leaves-requires-clause-callable : goal.intersect_leaves-requires-clause-callable
intersect_leaves-requires-clause-callable g t c =
    let inv = c.loop-child.invariant in
    can-next _ _ g.met.T.Visitor.lawful _ g.met.T.Visitor.deeper _ _ _ _ _ _ _
    c.in-Some-enter_next.ensures.shared_children inv.place inv.callable

-- that of two leaves ended it
pub returns-in-Err-intersect_leaves-clause-calls : goal.returns-in-Err-intersect_leaves-clause-calls
returns-in-Err-intersect_leaves-clause-calls g t c =
    let laws = g.met.T.Visitor.lawful in
    let found = c.in-Some.ensures.aligned in
    let inv = c.loop-child.invariant in
    let here = rw (c.value.ensures, c.value-2.ensures) at c.in-Ok.ensures.calls in
    let below = rw c.of-shared_children.ensures.shared_children at (inv.given _ _ (given-end _ _ laws _ _ _ _ _ _ _ _ _
    c.in-Some-enter_next.ensures.shared_children inv.place c.in-Err-intersect_leaves.ensures.calls)) in
    given-aligned _ _ laws _ _ _ _ _ _ _ _ found.0 _ _ found.2 found.1 here below

pub returns-in-Err-intersect_leaves-clause-bound : goal.returns-in-Err-intersect_leaves-clause-bound
returns-in-Err-intersect_leaves-clause-bound g t c =
    let inv = c.loop-child.invariant in
    let next = next-shared_children _ _ _ _ _ _ c.in-Some-enter_next.ensures.shared_children inv.within in
    omega (arith, inv.visits, next.visits, c.in-Some-enter_next.ensures.counted)

pub loop-child-preserved-then-has_no_children-3 : goal.loop-child-preserved-then-has_no_children-3
loop-child-preserved-then-has_no_children-3 g t c =
    let laws = g.met.T.Visitor.lawful in
    let inv = c.loop-child.invariant in
    let next = next-shared_children _ _ _ _ _ _ c.in-Some-enter_next.ensures.shared_children inv.within in
    let below = c.in-Ok-intersect_leaves.ensures in
    record {
      callable = can-others _ _ laws _ g.met.T.Visitor.deeper _ _ _ _ _ _ _ _
          c.in-Some-enter_next.ensures.shared_children inv.place below.calls inv.callable;
      place = path-on _ _ _ [] [] inv.place below.place;
      reserved = laws.keeps_reserved _ _ [] _ _ below.place inv.reserved (omega arith);
      given = λ r last h. inv.given r last (given-next _ _ laws _ _ _ _ _ _ _ _ _ _
          c.in-Some-enter_next.ensures.shared_children inv.place below.calls h);
      visits = omega (
        arith,
        inv.visits,
        next.visits,
        c.in-Some-enter_next.ensures.counted,
        leaves-unvisited c.in-Some-enter_next.child.node.now c.in-Some-enter_next.other.node.now
            (c.has_no_children-in-Some-enter_next.ensures.0 c.if-has_no_children-2.true)
            (c.has_no_children-then-has_no_children-2.ensures.0 c.if-has_no_children-3.true),
      );
      within = next.others;
    }

pub returns-clause-place : goal.returns-clause-place
returns-clause-place g t c =
    let found = c.in-Some.ensures.aligned in
    back-again _ _ _ _ found.0 _ c.mark-mark.ensures found.1 c.loop-child.invariant.place c.cut-2.ensures

pub returns-clause-calls : goal.returns-clause-calls
returns-clause-calls g t c =
    let laws = g.met.T.Visitor.lawful in
    let found = c.in-Some.ensures.aligned in
    let here = rw (c.value.ensures, c.value-2.ensures) at c.in-Ok.ensures.calls in
    let below = rw c.of-shared_children.ensures.shared_children at
    (c.loop-child.invariant.given (Ok tt) c.loop-child.f
    (rw c.in_default-enter_next.ensures.shared_children (laws.gives_none _ _))) in
    given-aligned _ _ laws _ _ _ _ _ _ _ _ found.0 _ _ found.2 found.1 here below
