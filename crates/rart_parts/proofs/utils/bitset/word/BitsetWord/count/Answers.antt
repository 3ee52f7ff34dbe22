use Rattle.rart_parts.proofs.sets.WordBits.{count_bits}
use Rattle.rart_parts.proofs.utils.bitset.word.BitsetWord.count.Goals as goal

pub returns : goal.returns
returns g c = rw (← c.to_u64.ensures.number_kept) (count_bits _ _ c.to_u64.ensures.fits)
