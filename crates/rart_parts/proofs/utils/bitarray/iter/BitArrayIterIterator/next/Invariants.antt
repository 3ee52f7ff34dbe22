use Rattle.std.proofs.Common.{◌≡◌, ◌+◌, ◌<◌, ◌^◌, length}
use Rattle.rart_parts.specs.Places.{numbered_values}
use Rattle.rart_parts.proofs.utils.bitarray.iter.BitArrayIterIterator.next.Given as goal

-- only free places were passed over
abbrev pub invariant-loop-place : goal.invariant-loop-place
invariant-loop-place g l =
    (l.self-inside.position + length l.self-inside.places.now < 2 ^ 64)
    × (numbered_values l.self-inside.position l.self-inside.places.now ≡ l.fn.self)

abbrev pub decreases-loop-place : goal.decreases-loop-place
decreases-loop-place g l = length l.self-inside.places.now
