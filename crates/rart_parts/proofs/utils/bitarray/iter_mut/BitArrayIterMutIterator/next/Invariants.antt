use Rattle.std.proofs.Common.{◌≡◌, ◌+◌, ◌<◌, ◌^◌, length}
use Rattle.std.specs.Slice.Iter.{iter_mut_rest}
use Rattle.rart_parts.specs.Places.{numbered_values}
use Rattle.rart_parts.proofs.utils.bitarray.iter_mut.BitArrayIterMutIterator.next.Given as goal

-- only free places were passed over
abbrev pub invariant-loop-place : goal.invariant-loop-place
invariant-loop-place g l =
    (l.self-inside.position + length (iter_mut_rest l.self-inside.places) < 2 ^ 64)
    × (numbered_values l.self-inside.position (iter_mut_rest l.self-inside.places) ≡ l.fn.self)

abbrev pub decreases-loop-place : goal.decreases-loop-place
decreases-loop-place g l = length (iter_mut_rest l.self-inside.places)
