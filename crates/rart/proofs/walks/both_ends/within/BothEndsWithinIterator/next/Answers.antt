use Rattle.rart.proofs.ends.PartEndLemmas.{front-step, unlike}
use Rattle.rart.proofs.walks.both_ends.within.BothEndsWithinIterator.next.Goals as goal

pub invariant_of-self-2 : goal.invariant_of-self-2
invariant_of-self-2 g c = let w = rw (← c.in-Active.ensures.value) at c.self.invariant in
    front-step _ _ _ _ _ _ w
    (unlike _ _ _ _ c.matches_slice.ensures c.if-matches_slice.false c.as_ref.ensures) c.in-Some.ensures.steps
