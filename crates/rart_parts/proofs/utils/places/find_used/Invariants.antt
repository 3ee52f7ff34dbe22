use Rattle.rart_parts.proofs.PlaceLemmas.{FoundBelow}
use Rattle.rart_parts.proofs.utils.places.find_used.Given as goal

abbrev pub invariant-loop-position : goal.invariant-loop-position
invariant-loop-position g l = FoundBelow g.B.BitsetTrait.CAPACITY (g.B.BitsetTrait.has l.used) l.places l.position
