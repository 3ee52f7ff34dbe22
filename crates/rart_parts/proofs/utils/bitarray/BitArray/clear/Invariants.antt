use Rattle.std.proofs.Common.{◌≡◌, ℕ, ◌<◌, false, length}
use Rattle.rart_parts.specs.Places.{is_used}
use Rattle.rart_parts.proofs.utils.bitarray.BitArray.clear.Given as goal

abbrev pub invariant-loop-position : goal.invariant-loop-position
invariant-loop-position g l = (length l.self-inside.places.items ≡ g.row.RANGE_WIDTH)
    × ((k : ℕ) → k < l.position → is_used l.self-inside.places.items k ≡ false)
