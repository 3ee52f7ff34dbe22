use Rattle.std.proofs.Common.{Some, arith}
use Rattle.rart_parts.specs.Bits.{has_bit}
use Rattle.rart_parts.proofs.sets.Members.{last_agrees}
use Rattle.rart_parts.proofs.sets.WordBits.{bit_highest}
use Rattle.rart_parts.proofs.utils.bitset.word.BitsetWord.highest_under.Goals as goal

pub returns-else-low-eq0 : goal.returns-else-low-eq0
returns-else-low-eq0 g c =
    let low = c.low_bits-low in
    rw (← c.to_u64.ensures.number_kept) (last_agrees _ (has_bit c.to_u64.result) c.args.above low.ensures.kept (Some _)
    (bit_highest low.result c.args.above (omega arith) (omega arith) low.ensures.fits))
