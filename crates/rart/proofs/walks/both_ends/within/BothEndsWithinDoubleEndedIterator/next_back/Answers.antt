use Rattle.std.proofs.Common.{◌∙◌, length, sym, ap, arith}
use Rattle.rart.proofs.ends.PartEndLemmas.{back-step, unlike}
use Rattle.rart.proofs.walks.both_ends.within.BothEndsWithinDoubleEndedIterator.next_back.Goals as goal

pub invariant_of-self-2 : goal.invariant_of-self-2
invariant_of-self-2 g c = let w = rw (← c.in-Active.ensures.value) at c.self.invariant in
    (back-step _ _ _ _ _ _ w
    (unlike _ _ _ _ c.matches_slice.ensures c.if-matches_slice.false c.as_ref.ensures) c.in-Some.ensures).left

pub returns-clause-steps : goal.returns-clause-steps
returns-clause-steps g c = let w = rw (← c.in-Active.ensures.value) at c.self.invariant in
    let all = rw (← c.in-Active.ensures.value) at c.self.view_is in
    sym all ∙ (back-step _ _ _ _ _ _ w
    (unlike _ _ _ _ c.matches_slice.ensures c.if-matches_slice.false c.as_ref.ensures) c.in-Some.ensures).given

pub returns-clause-goes : goal.returns-clause-goes
returns-clause-goes g c = let w = rw (← c.in-Active.ensures.value) at c.self.invariant in
    let all = rw (← c.in-Active.ensures.value) at c.self.view_is in
    let s = back-step _ _ _ _ _ _ w
    (unlike _ _ _ _ c.matches_slice.ensures c.if-matches_slice.false c.as_ref.ensures) c.in-Some.ensures in
    record { on = λ _. (tt, tt, omega (arith, ap length all, s.fewer)); keeps = tt; rests = λ _. tt }
