use Rattle.std.proofs.Common.{sym, ◌∙◌}
use Rattle.std.specs.List.{length_refill}
use Rattle.rart_parts.proofs.PlaceLemmas.{array_of}
use Rattle.rart_parts.proofs.utils.bitarray.BitArray.iter_mut.Goals as goal

pub invariant_of-self-lent : goal.invariant_of-self-lent
invariant_of-self-lent g c = λ w. array_of (g.B.BitsetTrait.has c.clear.new.self) _
    (sym (length_refill c.self.inside.places.len c.self.inside.places.items w c.self.inside.places.ok.0)
    ∙ c.self.inside.places.ok.0 ∙ c.self.invariant.full)
    c.self.invariant.covers c.self.invariant.fits c.clear.ensures
