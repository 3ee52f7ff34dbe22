use Rattle.std.proofs.Common.{◌≡◌, ℕ, ◌<◌, not, false}
use Rattle.rart_parts.specs.Places.{is_used}
use Rattle.rart_parts.proofs.utils.places.first_free_place.Given as goal

abbrev pub invariant-loop-position : goal.invariant-loop-position
invariant-loop-position g l = (k : ℕ) → k < l.position → not (is_used l.places k) ≡ false
