use Rattle.std.proofs.Common.{w64, arith}
use Rattle.rart_parts.proofs.sets.WordBits.{bit_with, with_fits}
use Rattle.rart_parts.proofs.utils.bitset.word.BitsetWord.with.Goals as goal

pub from_u64-requires : goal.from_u64-requires
from_u64-requires g c = with_fits _ c.args.at _ c.to_u64.ensures.fits c.requires g.met.Self.BitsetWord.narrow

pub returns : goal.returns
returns g c k h = rw (c.from_u64.ensures, ← c.to_u64.ensures.number_kept)
    (bit_with w64 _ c.args.at (omega (arith, c.requires, g.met.Self.BitsetWord.narrow)) k)
