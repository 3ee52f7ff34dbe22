use Rattle.rart_parts.proofs.PlaceLemmas.{array_first_used}
use Rattle.rart_parts.proofs.utils.bitarray.BitArray.first_used.Goals as goal

pub returns-in-Some : goal.returns-in-Some
returns-in-Some g c = rw (← c.self.view_is) (array_first_used c.self.invariant c.in-Some.position c.in-Some.ensures)
