use Rattle.std.proofs.Common.{w64, arith}
use Rattle.rart_parts.proofs.sets.WordBits.{bit_without}
use Rattle.rart_parts.proofs.utils.bitset.word.BitsetWord.without.Goals as goal

pub returns : goal.returns
returns g c k h =
    let narrow = g.met.Self.BitsetWord.narrow in
    rw (c.from_u64.ensures, ← c.to_u64.ensures.number_kept)
    (bit_without w64 _ c.args.at (omega (arith, c.requires, narrow)) k (omega (arith, h, narrow)))
