use Rattle.std.proofs.Common.{None}
use Rattle.std.proofs.lemmas.List.{length-replicate}
use Rattle.rart_parts.proofs.PlaceLemmas.{array_of}
use Rattle.rart_parts.proofs.utils.bitarray.BitArray.new.Goals as goal

pub invariant_of-result : goal.invariant_of-result
invariant_of-result g c =
    rw c.in_ok-places.ensures.ok (array_of (g.B.BitsetTrait.has c.default.result) _
    (length-replicate g.row.RANGE_WIDTH None) c.requires.covers c.requires.fits
    (g.met.B.BitsetTrait.empty _ c.default.ensures))
