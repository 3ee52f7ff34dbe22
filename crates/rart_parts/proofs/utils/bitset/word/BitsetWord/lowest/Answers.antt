use Rattle.std.proofs.Common.{arith}
use Rattle.rart_parts.proofs.sets.WordBits.{bit_lowest}
use Rattle.rart_parts.proofs.utils.bitset.word.BitsetWord.lowest.Goals as goal

pub returns-else-bits-eq0 : goal.returns-else-bits-eq0
returns-else-bits-eq0 g c = rw (← c.to_u64-bits.ensures.number_kept)
    (bit_lowest _ _ (omega arith) (omega arith) c.to_u64-bits.ensures.fits)
