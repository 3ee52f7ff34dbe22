use Rattle.std.proofs.Common.{◌≡◌, ℕ, ◌<◌, ◌≤◌, false}
use Rattle.rart_parts.specs.Bits.{words_have}
use Rattle.rart_parts.proofs.utils.bitset.set.Bitset.last_under.Given as goal

abbrev pub invariant-loop-end : goal.invariant-loop-end
invariant-loop-end g l = record {
  within : l.end ≤ l.above;
  none : (k : ℕ) → l.end ≤ k → k < l.above
      → words_have g.W.BitsetWord.WIDTH g.W.BitsetWord.number l.self.words k ≡ false;
}

abbrev pub decreases-loop-end : goal.decreases-loop-end
decreases-loop-end g l = l.end
