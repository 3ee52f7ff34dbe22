use Rattle.std.proofs.Common.{◌≡◌, ℕ, ◌<◌, ◌*◌, false}
use Rattle.rart_parts.specs.Bits.{words_have}
use Rattle.rart_parts.proofs.utils.bitset.set.BitsetBitsetTrait.is_empty.Given as goal

abbrev pub invariant-loop-i : goal.invariant-loop-i
invariant-loop-i g l = (k : ℕ) → k < l.i * g.W.BitsetWord.WIDTH
    → words_have g.W.BitsetWord.WIDTH g.W.BitsetWord.number l.self.words k ≡ false
