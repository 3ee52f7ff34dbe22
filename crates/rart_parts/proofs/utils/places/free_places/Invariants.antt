use Rattle.std.proofs.Common.{◌≡◌, [], vec_len}
use Rattle.rart_parts.specs.Places.{values_in}
use Rattle.rart_parts.proofs.utils.places.free_places.Given as goal

abbrev pub invariant-loop-place : goal.invariant-loop-place
invariant-loop-place g l = values_in l.rest.items ≡ []

abbrev pub decreases-loop-place : goal.decreases-loop-place
decreases-loop-place g l = vec_len l.rest
