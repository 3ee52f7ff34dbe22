use Rattle.std.proofs.Common.{◌≡◌, ◌+◌, ◌++◌, ◌∷◌, [], length}
use Rattle.rart_parts.specs.Places.{numbered_values}
use Rattle.rart_parts.proofs.NumberedLemmas.{last_used, last_free, one_fewer}
use Rattle.rart_parts.proofs.utils.bitarray.iter.BitArrayIterDoubleEndedIterator.next_back.Goals as goal

pub returns-in-Some-place-clause-steps : goal.returns-in-Some-place-clause-steps
returns-in-Some-place-clause-steps g c =
    last_used c.loop-place.self-inside.position _ c.in-Some.rest.now c.in-Some-place.x c.args.self.now
    (rw c.in-Some-place.is at c.in-Some.ensures.cases.0) c.loop-place.invariant.1

pub returns-in-Some-place-clause-goes : goal.returns-in-Some-place-clause-goes
returns-in-Some-place-clause-goes g c =
    let at = c.loop-place.self-inside.position in
    let steps : c.args.self.now ≡ numbered_values at c.in-Some.rest.now ++
    (at + length c.in-Some.rest.now, c.in-Some-place.x)
    ∷ []
    = last_used at _ c.in-Some.rest.now c.in-Some-place.x c.args.self.now
    (rw c.in-Some-place.is at c.in-Some.ensures.cases.0) c.loop-place.invariant.1 in
    record { on = λ finite. (tt, finite, one_fewer _ _ _ steps); keeps = tt; rests = λ _. tt }

pub loop-place-preserved : goal.loop-place-preserved
loop-place-preserved g c =
    last_free c.loop-place.self-inside.position _ c.in-Some.rest.now _
    (rw c.in_default-place.is at c.in-Some.ensures.cases.0) c.loop-place.invariant
