use Rattle.std.proofs.Common.{w64, arith}
use Rattle.rart_parts.proofs.sets.WordBits.{bit_test}
use Rattle.rart_parts.proofs.utils.bitset.word.BitsetWord.test.Goals as goal

pub returns : goal.returns
returns g c = rw (← c.to_u64.ensures.number_kept)
    (bit_test w64 _ c.args.at (omega (arith, c.requires, g.met.Self.BitsetWord.narrow)))
