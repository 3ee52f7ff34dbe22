use Rattle.rart.proofs.ends.PartEndLemmas.{begin}
use Rattle.rart.proofs.walks.both_ends.within.BothEndsWithin.of.Goals as goal

pub invariant_of-result-2 : goal.invariant_of-result-2
invariant_of-result-2 g c = (begin _ _ _ _ _ _ c.requires.ascending c.requires.reversed c.in-Some.ensures.steps
    c.in-Some-step.ensures).left

pub returns : goal.returns
returns g c = (begin _ _ _ _ _ _ c.requires.ascending c.requires.reversed c.in-Some.ensures.steps
    c.in-Some-step.ensures).all
