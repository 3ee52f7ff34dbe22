use Rattle.std.proofs.Common.{◌≡◌, ◌*◌, length}
use Rattle.rart_parts.specs.Bits.{members}
use Rattle.rart_cidr.specs.CodeSets.{has_code}
use Rattle.rart_cidr.proofs.code_set.rank.Given as goal

abbrev pub invariant-loop-i : goal.invariant-loop-i
invariant-loop-i l = l.count ≡ length (members (has_code l.codes.words) (l.i * 64))
