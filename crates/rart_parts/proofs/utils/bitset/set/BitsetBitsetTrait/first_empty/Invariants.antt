use Rattle.std.proofs.Common.{◌≡◌, ℕ, ◌<◌, ◌*◌, not, false}
use Rattle.rart_parts.specs.Bits.{words_have}
use Rattle.rart_parts.proofs.utils.bitset.set.BitsetBitsetTrait.first_empty.Given as goal

abbrev pub invariant-loop-i : goal.invariant-loop-i
invariant-loop-i g l = (k : ℕ) → k < l.i * g.W.BitsetWord.WIDTH
    → not (words_have g.W.BitsetWord.WIDTH g.W.BitsetWord.number l.self.words k) ≡ false
