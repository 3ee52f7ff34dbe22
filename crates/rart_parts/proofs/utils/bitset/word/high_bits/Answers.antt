use Rattle.rart_parts.proofs.sets.WordBits.{bits_after}
use Rattle.rart_parts.proofs.utils.bitset.word.high_bits.Goals as goal

pub returns-then-from-lt64-clause-kept : goal.returns-then-from-lt64-clause-kept
returns-then-from-lt64-clause-kept c = bits_after c.args.bits c.args.from c.if-from-lt64.true
