use Rattle.std.proofs.Common.{◌≡◌, ◌*◌, length}
use Rattle.rart_parts.specs.Bits.{words_have, members}
use Rattle.rart_parts.proofs.utils.bitset.set.BitsetBitsetTrait.size.Given as goal

abbrev pub invariant-loop-i : goal.invariant-loop-i
invariant-loop-i g l = l.size ≡ length (members (words_have g.W.BitsetWord.WIDTH g.W.BitsetWord.number l.self.words)
    (l.i * g.W.BitsetWord.WIDTH))
