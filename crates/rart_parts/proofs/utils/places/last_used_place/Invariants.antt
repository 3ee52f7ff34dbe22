use Rattle.std.proofs.Common.{◌≡◌, ℕ, ◌<◌, ◌≤◌, false, length}
use Rattle.rart_parts.specs.Places.{is_used}
use Rattle.rart_parts.proofs.utils.places.last_used_place.Given as goal

abbrev pub invariant-loop-position : goal.invariant-loop-position
invariant-loop-position g l = (k : ℕ) → l.position ≤ k → k < length l.places → is_used l.places k ≡ false
