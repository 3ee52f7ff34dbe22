use Rattle.std.proofs.Common.{arith}
use Rattle.rart.proofs.ends.BothEndLemmas.{front-step}
use Rattle.rart.proofs.walks.both_ends.BothEndsIterator.next.Goals as goal

pub invariant_of-self : goal.invariant_of-self
invariant_of-self g c = (front-step _ _ _ _ _ _ c.self.invariant c.in-Some.ensures.steps
    (omega (arith, c.if-self-eq0.false))).left
