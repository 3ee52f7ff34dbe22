-- A set as a number, one position after another.
use Rattle.std.proofs.Common.{◌≡◌, ◌≢◌, ℕ, ◌<◌, ◌+◌, ◌*◌, ◌%◌, ◌^◌, ◌||◌, ◌&&◌, Bool, true, false, ltb, bit_or, sym, ap}
use Rattle.std.proofs.Common.{◌∙◌, arith, ⊎_elim}
use mir.Val.{bits}
use Rattle.std.specs.Int.{w128}
use Rattle.std.proofs.lemmas.Bool.{lt-ltb, le-ltb, cases_lt}
use Rattle.std.proofs.lemmas.Bool.Decides.{eqb_tells}
use Rattle.rart_parts.specs.Bits.{has_bit}
use Rattle.rart_parts.proofs.sets.WordBits.{bit_with}

ltb_next : (k p : ℕ) → k ≢ p → ltb k (p + 1) ≡ ltb k p
ltb_next k p n = ⊎_elim (λ l. lt-ltb k (p + 1) (omega arith) ∙ sym (lt-ltb k p l)) (λ l. le-ltb k (p + 1) (omega arith)
    ∙ sym (le-ltb k p l)) (cases_lt k p)

module _ (has : ℕ → Bool) (p mask : ℕ) (below : (k : ℕ) → has_bit mask k ≡ (ltb k p && has k)) where
  -- position p is in the set, and its bit was set
  pub mask_more : p < 128 → has p ≡ true → (k : ℕ) → has_bit (bit_or mask (1 * 2 ^ p % 2 ^ bits w128)) k
      ≡ (ltb k (p + 1) && has k)
  mask_more h e k = bit_with w128 mask p h k ∙ ⊎_elim
      (λ t. ap (λ b. b || has_bit mask k) t.0 ∙ sym (ap (λ b. b && has k) (lt-ltb k (p + 1) (omega (arith, t.1)))
      ∙ ap has t.1 ∙ e))
      (λ t. ap (λ b. b || has_bit mask k) t.0 ∙ below k ∙ ap (λ b. b && has k) (sym (ltb_next k p t.1)))
      (eqb_tells k p)

  and_false : (b c : Bool) → c ≡ false → (b && c) ≡ false
  and_false true c e = e
  and_false false c e = cc

  -- position p is not in the set
  pub mask_same : has p ≡ false → (k : ℕ) → has_bit mask k ≡ (ltb k (p + 1) && has k)
  mask_same e k = below k ∙ ⊎_elim
      (λ t. and_false (ltb k p) (has k) (ap has t.1 ∙ e) ∙ sym (and_false (ltb k (p + 1)) (has k) (ap has t.1 ∙ e)))
      (λ t. ap (λ b. b && has k) (sym (ltb_next k p t.1)))
      (eqb_tells k p)
