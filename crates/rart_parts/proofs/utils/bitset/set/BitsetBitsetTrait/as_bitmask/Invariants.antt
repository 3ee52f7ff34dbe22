use Rattle.std.proofs.Common.{◌≡◌, ℕ, ◌*◌, ◌&&◌, ltb}
use Rattle.rart_parts.specs.Bits.{has_bit, words_have}
use Rattle.rart_parts.proofs.utils.bitset.set.BitsetBitsetTrait.as_bitmask.Given as goal

abbrev pub invariant-loop-position : goal.invariant-loop-position
invariant-loop-position g l = (k : ℕ) → has_bit l.mask k
    ≡ (ltb k l.position && (ltb k (g.row.S * g.W.BitsetWord.WIDTH) && words_have g.W.BitsetWord.WIDTH
    g.W.BitsetWord.number l.self.words k))
