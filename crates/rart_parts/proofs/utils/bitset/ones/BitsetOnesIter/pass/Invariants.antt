use Rattle.std.proofs.Common.{◌≡◌, ℕ, ◌<◌, ◌≤◌, ◌*◌, ◌&&◌}
use Rattle.std.specs.Prelude.{nat_lt}
use Rattle.rart_parts.specs.Bits.{words_have}
use Rattle.rart_parts.proofs.utils.bitset.ones.BitsetOnesIter.pass.Given as goal

-- the words up to this one have the positions above `position` alone, and the others are unchanged
abbrev pub invariant-loop-i : goal.invariant-loop-i
invariant-loop-i g l = record {
  passed : (k : ℕ) → k < l.i * g.W.BitsetWord.WIDTH
      → words_have g.W.BitsetWord.WIDTH g.W.BitsetWord.number l.self-inside.rest.words k
      ≡ (nat_lt l.position k
      && words_have g.W.BitsetWord.WIDTH g.W.BitsetWord.number l.initial.self-inside.rest.words k);
  left : (k : ℕ) → l.i * g.W.BitsetWord.WIDTH ≤ k → k < g.row.S * g.W.BitsetWord.WIDTH
      → words_have g.W.BitsetWord.WIDTH g.W.BitsetWord.number l.self-inside.rest.words k
      ≡ words_have g.W.BitsetWord.WIDTH g.W.BitsetWord.number l.initial.self-inside.rest.words k;
}
