use Rattle.rart_parts.proofs.PlaceLemmas.{array_last_used_pos}
use Rattle.rart_parts.proofs.utils.bitarray.BitArray.last_used_pos.Goals as goal

pub returns-in-Some : goal.returns-in-Some
returns-in-Some g c = rw (← c.self.view_is) (array_last_used_pos c.self.invariant c.in-Some.position c.in-Some.ensures)
