use Rattle.rart_parts.proofs.PlaceLemmas.{array_without}
use Rattle.rart_parts.proofs.utils.bitarray.BitArray.erase.Goals as goal

pub invariant_of-self : goal.invariant_of-self
invariant_of-self g c = rw c.take.ensures.after
    (array_without c.self.invariant c.args.position c.requires c.deref.ensures.value c.find_used.ensures
    c.unset.ensures)
