use Rattle.std.proofs.Common.{arith}
use Rattle.rart_parts.proofs.sets.WordBits.{bits_kept}
use Rattle.rart_parts.proofs.utils.bitset.word.low_bits.Goals as goal

pub returns-then-above-lt64-clause-kept : goal.returns-then-above-lt64-clause-kept
returns-then-above-lt64-clause-kept c = bits_kept c.args.bits c.args.above (omega (arith, c.if-above-lt64.true))
