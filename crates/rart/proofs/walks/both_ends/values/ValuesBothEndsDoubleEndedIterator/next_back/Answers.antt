use Rattle.std.proofs.Common.{◌-◌, ap, arith}
use Rattle.rart_keys.specs.SortedMap.{values_of}
use Rattle.rart.proofs.ends.BothEndLemmas.{back-step}
use Rattle.rart.proofs.walks.both_ends.values.ValuesBothEndsDoubleEndedIterator.next_back.Goals as goal

pub invariant_of-self : goal.invariant_of-self
invariant_of-self g c = (back-step _ _ _ _ _ _ c.self.invariant (ap values_of c.in-Some.ensures.steps)
    (omega (arith, c.if-self-eq0.false))).left

pub returns-clause-steps : goal.returns-clause-steps
returns-clause-steps g c = rw (← c.self.view_is) (back-step c.self.inside.left (c.self.inside.left - 1) _ _ _ _
    c.self.invariant (ap values_of c.in-Some.ensures.steps) (omega (arith, c.if-self-eq0.false))).given
