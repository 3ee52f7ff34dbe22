use Rattle.std.proofs.Common.{◌≡◌, ◌+◌, ◌++◌, ◌∷◌, [], length}
use Rattle.std.specs.Slice.Iter.{iter_mut_rest}
use Rattle.rart_parts.specs.Places.{numbered_values}
use Rattle.rart_parts.proofs.NumberedLemmas.{last_used, last_free, one_fewer}
use Rattle.rart_parts.proofs.utils.bitarray.iter_mut.BitArrayIterMutDoubleEndedIterator.next_back.Goals as goal

pub returns-in-Some-place-clause-steps : goal.returns-in-Some-place-clause-steps
returns-in-Some-place-clause-steps g c =
    rw c.len.ensures.value (last_used c.loop-place.self-inside.position _ (iter_mut_rest c.next_back.new.self)
    c.in-Some-place.x c.args.self.now (rw c.in-Some-place.is at c.in-Some.ensures.steps) c.loop-place.invariant.1)

pub returns-in-Some-place-clause-goes : goal.returns-in-Some-place-clause-goes
returns-in-Some-place-clause-goes g c =
    let at = c.loop-place.self-inside.position in
    let rest = iter_mut_rest c.next_back.new.self in
    let steps : c.args.self.now ≡ numbered_values at rest ++ (at + length rest, c.in-Some-place.x) ∷ []
    = last_used at _ rest c.in-Some-place.x c.args.self.now (rw c.in-Some-place.is at c.in-Some.ensures.steps)
    c.loop-place.invariant.1 in
    record { on = λ finite. (tt, finite, one_fewer _ _ _ steps); keeps = tt; rests = λ _. tt }

pub loop-place-preserved : goal.loop-place-preserved
loop-place-preserved g c =
    last_free c.loop-place.self-inside.position _ (iter_mut_rest c.next_back.new.self) _
    (rw c.in_default-place.is at c.in-Some.ensures.steps) c.loop-place.invariant
