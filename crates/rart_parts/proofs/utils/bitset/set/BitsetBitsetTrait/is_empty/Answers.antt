use Rattle.std.proofs.Common.{◌≡◌, ℕ, ◌<◌, Bool, true, false, Option, Some, None, is_some, sym, ◌∙◌, rules}
use Rattle.std.proofs.lemmas.Bool.{false≢true}
use Rattle.rart_parts.specs.Bits.{IsFirst}
use Rattle.rart_parts.proofs.sets.Words.{below_more, first_found}
use Rattle.rart_parts.proofs.utils.bitset.set.BitsetBitsetTrait.is_empty.Goals as goal

no_first : (has : ℕ → Bool) (capacity : ℕ) (r : Option ℕ) → IsFirst has capacity r → false ≡ is_some r → (k : ℕ)
    → k < capacity → has k ≡ false
no_first has capacity None f e = f
no_first has capacity (Some p) f e = absurd (false≢true e)

some_first : (has : ℕ → Bool) (capacity : ℕ) (r : Option ℕ) → IsFirst has capacity r → true ≡ is_some r
    → (p : ℕ) × ((p < capacity) × (has p ≡ true) × ((k : ℕ) → k < p → has k ≡ false))
some_first has capacity None f e = absurd (false≢true (sym e))
some_first has capacity (Some p) f e = (p, f)

pub returns-then-is_some : goal.returns-then-is_some
returns-then-is_some g c =
    let at = some_first _ _ _ (rw (← c.index-self-i.is) at c.lowest.ensures) c.if-is_some.ensures in
    let f = first_found g.W.BitsetWord.WIDTH g.W.BitsetWord.number g.met.W.BitsetWord.wide c.args.self.now.words g.row.S
    c.loop-i.i c.index-self-i.result (search rules) c.loop-i-test.true c.index-self-i.is (λ b. b) at.0
    c.loop-i.invariant at.1 in
    (λ no. absurd (false≢true no), λ none. absurd (false≢true (sym (none _ f.0) ∙ f.1)))

pub loop-i-preserved : goal.loop-i-preserved
loop-i-preserved g c = below_more g.W.BitsetWord.WIDTH g.W.BitsetWord.number g.met.W.BitsetWord.wide
    c.args.self.now.words g.row.S c.loop-i.i c.index-self-i.result (search rules) c.loop-i-test.true c.index-self-i.is
    (λ b. b) c.loop-i.invariant (no_first _ _ _ (rw (← c.index-self-i.is) at c.lowest.ensures) c.if-is_some.ensures)
