use Rattle.rart_parts.proofs.PlaceLemmas.{array_with}
use Rattle.rart_parts.proofs.utils.bitarray.BitArray.update.Goals as goal

pub invariant_of-self : goal.invariant_of-self
invariant_of-self g c = rw c.replace.ensures.after
    (array_with c.self.invariant c.args.position c.args.x c.requires c.deref.ensures.value c.find_used.ensures
    c.set.ensures)
