use Rattle.std.proofs.Common.{◌≡◌, false, true, length, ap, arith, rules, sym}
use Rattle.rart.proofs.trees.DifferenceLemmas.{passes, rest-ascends}
use Rattle.rart.proofs.tree.two_trees.difference.DifferenceIterIterator.next.Goals as goal

pub invariant_of-self : goal.invariant_of-self
invariant_of-self g c = (
  (rw c.in-Some.ensures.steps at c.loop-key.invariant.left_ascends).1,
  rw c.skip_to.ensures.rest (rest-ascends (g.K.KeyTrait.bytes c.in-Some.key) _ c.loop-key.invariant.right_ascends),
)

pub returns-then-not-skip_to-clause-steps : goal.returns-then-not-skip_to-clause-steps
returns-then-not-skip_to-clause-steps g c =
    let here : c.skip_to.result ≡ false = search rules in
    rw here at
    (passes _ _ _ _ _ _ _ c.loop-key.invariant.same c.loop-key.invariant.left_ascends c.loop-key.invariant.right_ascends
    c.in-Some.ensures.steps c.skip_to.ensures.rest c.skip_to.ensures.found)

pub returns-then-not-skip_to-clause-goes : goal.returns-then-not-skip_to-clause-goes
returns-then-not-skip_to-clause-goes g c =
    let here : c.skip_to.result ≡ false = search rules in
    let steps = rw here at
    (passes _ _ _ _ _ _ _ c.loop-key.invariant.same c.loop-key.invariant.left_ascends c.loop-key.invariant.right_ascends
    c.in-Some.ensures.steps c.skip_to.ensures.rest c.skip_to.ensures.found) in
    record { on = λ _. (tt, tt, omega (arith, ap length steps)); keeps = tt; rests = λ _. tt }

pub loop-key-preserved : goal.loop-key-preserved
loop-key-preserved g c =
    let here : c.skip_to.result ≡ true = search rules in
    record {
      same = sym (rw here at
          (passes _ _ _ _ _ _ _ c.loop-key.invariant.same c.loop-key.invariant.left_ascends
          c.loop-key.invariant.right_ascends c.in-Some.ensures.steps c.skip_to.ensures.rest
          c.skip_to.ensures.found));
      left_ascends = (rw c.in-Some.ensures.steps at c.loop-key.invariant.left_ascends).1;
      right_ascends = rw c.skip_to.ensures.rest
          (rest-ascends (g.K.KeyTrait.bytes c.in-Some.key) _ c.loop-key.invariant.right_ascends);
    }
