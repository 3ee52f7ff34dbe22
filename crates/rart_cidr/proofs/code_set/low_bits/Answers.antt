use Rattle.rart_parts.proofs.sets.WordBits.{bits_kept}
use Rattle.rart_cidr.proofs.code_set.low_bits.Goals as goal

pub returns-clause-kept : goal.returns-clause-kept
returns-clause-kept c = bits_kept c.args.bits c.args.above c.requires
