-- The bits of one number.
use Rattle.std.proofs.Common.{◌≡◌, ℕ, suc, zero, ◌<◌, ◌≤◌, ◌+◌, ◌-◌, ◌*◌, ◌/◌, ◌%◌, ◌^◌, ◌||◌, ◌&&◌, Bool, true, false}
use Rattle.std.proofs.Common.{cond, not, eqb, List, ◌∷◌, length, bit_and, bit_or, count_ones, sym, ap, ◌∙◌, arith}
use Rattle.std.proofs.Common.{⊎_elim, subst, rules, w64, refl}
use Prim.Native.Nat.{min}
use mir.Val.{bits}
use Rattle.std.specs.Int.{Width, bit_at, bit_not, trailing_zeros, trailing_ones, leading_zeros}
use Rattle.std.proofs.Math.Dec.{leb}
use Rattle.std.proofs.lemmas.Bool.{eq-eqb, ne_eqb, cases_lt, le-leb, lt-leb}
use Rattle.std.proofs.lemmas.Bool.Decides.{eqb_tells}
use Rattle.std.proofs.lemmas.Nat.{or_lt, leading_top}
use Rattle.std.proofs.lemmas.Nat.Bits.{and_pow, bit_at_lowest, bit_at-suc, bit_at_set_same, bit_at_set_other}
use Rattle.std.proofs.lemmas.Nat.Bits.{bit_at_clear_same, bit_at_clear_other, bit_at-trailing_zeros}
use Rattle.std.proofs.lemmas.Nat.Bits.{bit_at-trailing_ones, bit_at_ones, bit_at_above, bit_at-zero, bit_at-lt}
use Rattle.std.proofs.lemmas.Nat.Bits.{bit_at_and, bit_at_not, bit_at_ones_above}
use Rattle.std.proofs.Math.Nat.{mod-eq_of_lt, div-eq_of_lt-le}
use Rattle.std.proofs.Math.Pow.{pow-lt}
use lib.Count.{ones_step, ones-le}
use Rattle.rart_parts.specs.Bits.{has_bit, members_from, members}
use Rattle.rart_parts.proofs.sets.Members.{length-members_from-moved}

-- ---- one bit written
pub bit_with : (w : Width) (n k : ℕ) → k < bits w → (i : ℕ) → has_bit (bit_or n (1 * 2 ^ k % 2 ^ bits w)) i
    ≡ (eqb i k || has_bit n i)
bit_with w n k h i = ⊎_elim
    (λ p. eq-eqb _ _ (ap (λ j. bit_at (bit_or n (1 * 2 ^ k % 2 ^ bits w)) j) p.1 ∙ bit_at_set_same w n k h)
    ∙ ap (λ b. b || has_bit n i) (sym p.0))
    (λ p. ap (λ b. eqb b 1) (bit_at_set_other w n k h i p.1) ∙ ap (λ b. b || has_bit n i) (sym p.0))
    (eqb_tells i k)

pub bit_without : (w : Width) (n k : ℕ) → k < bits w → (i : ℕ) → i < bits w
    → has_bit (bit_and n (bit_not w (1 * 2 ^ k % 2 ^ bits w))) i ≡ (not (eqb i k) && has_bit n i)
bit_without w n k h i l = ⊎_elim
    (λ p. ap (λ j. has_bit (bit_and n (bit_not w (1 * 2 ^ k % 2 ^ bits w))) j) p.1
    ∙ ap (λ b. eqb b 1) (bit_at_clear_same w n k h) ∙ ap (λ b. not b && has_bit n i) (sym p.0))
    (λ p. ap (λ b. eqb b 1) (bit_at_clear_other w n k h i l p.1) ∙ ap (λ b. not b && has_bit n i) (sym p.0))
    (eqb_tells i k)

one_shifted : (w : Width) (k : ℕ) → k < bits w → 1 * 2 ^ k % 2 ^ bits w ≡ 2 ^ k
one_shifted w k h = ap (λ n. n % 2 ^ bits w) (omega arith) ∙ mod-eq_of_lt (pow-lt h)

pub with_fits : (n k width : ℕ) → n < 2 ^ width → k < width → width ≤ 64
    → bit_or n (1 * 2 ^ k % 2 ^ bits w64) < 2 ^ width
with_fits n k width h lt le = or_lt width n _ h
    (subst (λ m. m < 2 ^ width) (sym (one_shifted w64 k (omega arith))) (pow-lt lt))

-- ---- one bit read
pub no_bits : (i : ℕ) → has_bit 0 i ≡ false
no_bits i = ap (λ b. eqb b 1) (bit_at-zero i)

pow_positive : (k : ℕ) → 0 < 2 ^ k
pow_positive k = search rules

times_zero : (b m : ℕ) → 0 < m → b < 2 → not (eqb (b * m) 0) ≡ eqb b 1
times_zero b m p h = ⊎_elim
    (λ q. ap (λ n. not (eqb (n * m) 0)) q.1 ∙ ap not (ne_eqb (1 * m) 0 (λ e. omega arith)) ∙ sym q.0)
    (λ q. let z : b ≡ 0 = omega arith in ap (λ n. not (eqb (n * m) 0)) z ∙ ap not (eq-eqb (0 * m) 0 (omega arith))
    ∙ sym q.0)
    (eqb_tells b 1)

pub bit_test : (w : Width) (n k : ℕ) → k < bits w → not (eqb (bit_and n (1 * 2 ^ k % 2 ^ bits w)) 0) ≡ has_bit n k
bit_test w n k h = ap (λ m. not (eqb (bit_and n m) 0)) (one_shifted w k h) ∙ ap (λ m. not (eqb m 0)) (and_pow n k)
    ∙ times_zero (bit_at n k) (2 ^ k) (pow_positive k) (bit_at-lt n k)

-- a number of `width` bits has no bit from there on
bit_above : (n width k : ℕ) → n < 2 ^ width → width ≤ k → has_bit n k ≡ false
bit_above n width k h le = ap (λ b. eqb b 1) (bit_at_above n width k h le)

true_false : {b : Bool} → b ≡ true → b ≡ false → ⊥
true_false p q = cc

bit_below : (n width k : ℕ) → n < 2 ^ width → has_bit n k ≡ true → k < width
bit_below n width k h e = ⊎_elim (λ l. l) (λ l. absurd (true_false e (bit_above n width k h l))) (cases_lt k width)

-- ---- the first and the last bit
pub bit_lowest : (n width : ℕ) → 0 < n → n < 2 ^ 64 → n < 2 ^ width
    → (trailing_zeros w64 n < width) × (has_bit n (trailing_zeros w64 n) ≡ true)
    × ((i : ℕ) → i < trailing_zeros w64 n → has_bit n i ≡ false)
bit_lowest n width p h fits =
    let l = bit_at-trailing_zeros w64 n p h in
    (bit_below n width _ fits (eq-eqb _ _ l.1), eq-eqb _ _ l.1, λ i lt. ap (λ b. eqb b 1) (l.2 i lt))

pub bit_lowest_unset : (n : ℕ) → n + 1 < 2 ^ 64
    → (not (has_bit n (trailing_ones w64 n)) ≡ true) × ((i : ℕ) → i < trailing_ones w64 n → not (has_bit n i) ≡ false)
bit_lowest_unset n h =
    let l = bit_at-trailing_ones w64 n h in
    (ap (λ b. not (eqb b 1)) l.1, λ i lt. ap not (eq-eqb _ _ (l.2 i lt)))

pub all_ones : (n k : ℕ) → n ≡ 2 ^ 64 - 1 → k < 64 → not (has_bit n k) ≡ false
all_ones n k e h = ap (λ m. not (has_bit m k)) e ∙ ap not (eq-eqb _ _ (bit_at_ones 64 k h))

bit_top : (n j : ℕ) → 2 ^ j ≤ n → n < 2 ^ suc j → has_bit n j ≡ true
bit_top n j low high =
    let one : n / 2 ^ j ≡ 1 = div-eq_of_lt-le (2 ^ j) (omega arith) (subst (λ m. n < m) (omega arith) high) in
    ap (λ q. eqb (q % 2) 1) one

pub bit_highest : (n width : ℕ) → 0 < n → n < 2 ^ 64 → n < 2 ^ width
    → (63 - leading_zeros w64 n < width) × (has_bit n (63 - leading_zeros w64 n) ≡ true)
    × ((i : ℕ) → 63 - leading_zeros w64 n < i → i < width → has_bit n i ≡ false)
bit_highest n width p h fits =
    let t = leading_top 64 n p h in
    let at : 63 - leading_zeros w64 n ≡ t.0 = omega (arith, t.1) in
    let top = bit_top n t.0 t.2 t.3 in (
      subst (λ j. j < width) (sym at) (bit_below n width t.0 fits top),
      subst (λ j. has_bit n j ≡ true) (sym at) top,
      λ i l m. bit_above n (suc t.0) i t.3 (omega (arith, l, at)),
    )

-- ---- the bits below a position
min_one : (b : ℕ) → b < 2 → min b 1 ≡ b
min_one zero h = refl
min_one (suc zero) h = refl
min_one (suc (suc b)) h = absurd (omega arith)

pub bits_kept : (n k : ℕ) → k < 64 → (i : ℕ) → i < k → has_bit (bit_and n (1 * 2 ^ k % 2 ^ bits w64 - 1)) i
    ≡ has_bit n i
bits_kept n k h i l = ap (λ m. has_bit (bit_and n (m - 1)) i) (one_shifted w64 k h) ∙ ap (λ b. eqb b 1)
    (bit_at_and n (2 ^ k - 1) i ∙ ap (min (bit_at n i)) (bit_at_ones k i l) ∙ min_one (bit_at n i) (bit_at-lt n i))

-- ---- the bits from a position on
min_zero : (b : ℕ) → b < 2 → min b 0 ≡ 0
min_zero zero h = refl
min_zero (suc zero) h = refl
min_zero (suc (suc b)) h = absurd (omega arith)

pub bits_after : (n k : ℕ) → k < 64 → (i : ℕ) → i < 64
    → has_bit (bit_and n (bit_not w64 (1 * 2 ^ k % 2 ^ bits w64 - 1))) i ≡ (leb k i && has_bit n i)
bits_after n k h i l =
    let low = ap (λ m. has_bit (bit_and n (bit_not w64 (m - 1))) i) (one_shifted w64 k h) in
    let fits : 2 ^ k - 1 < 2 ^ bits w64 = omega (arith, pow-lt h) in
    let each = bit_at_and n (bit_not w64 (2 ^ k - 1)) i
    ∙ ap (min (bit_at n i)) (bit_at_not w64 (2 ^ k - 1) i fits l) in
    low ∙ ap (λ b. eqb b 1) each ∙ ⊎_elim
    (λ under. ap (λ b. eqb (min (bit_at n i) (1 - b)) 1) (bit_at_ones k i under)
    ∙ ap (λ b. eqb b 1) (min_zero (bit_at n i) (bit_at-lt n i)) ∙ ap (λ b. b && has_bit n i) (sym (lt-leb k i under)))
    (λ from. ap (λ b. eqb (min (bit_at n i) (1 - b)) 1) (bit_at_ones_above k i from)
    ∙ ap (λ b. eqb b 1) (min_one (bit_at n i) (bit_at-lt n i)) ∙ ap (λ b. b && has_bit n i) (sym (le-leb k i from)))
    (cases_lt i k)

-- ---- how many bits
lowest_count : (b : ℕ) (x : ℕ) (l : List ℕ) → b < 2 → length (cond (eqb b 1) (x ∷ l) l) ≡ b + length l
lowest_count b x l h = ⊎_elim
    (λ t. ap (λ c. length (cond c (x ∷ l) l)) t.0 ∙ omega (arith, t.1))
    (λ t. ap (λ c. length (cond c (x ∷ l) l)) t.0 ∙ omega (arith, t.1))
    (eqb_tells b 1)

half_below : (n width : ℕ) → n < 2 ^ suc width → n / 2 < 2 ^ width
half_below n width h = let k : 2 ^ suc width ≡ 2 * 2 ^ width = omega arith in omega (arith, k, h)

pub count_bits : (width n : ℕ) → n < 2 ^ width → count_ones n ≡ length (members (has_bit n) width)
count_bits zero n h = omega (arith, ones-le 0 n h)
count_bits (suc width) n h =
    let rest : length (members_from (has_bit n) 1 width) ≡ length (members_from (has_bit (n / 2)) 0 width)
    = length-members_from-moved (has_bit n) (has_bit (n / 2)) 1 0 width (λ j l. ap (has_bit n) (omega arith)
    ∙ ap (λ b. eqb b 1) (bit_at-suc n j) ∙ ap (has_bit (n / 2)) (omega arith)) in
    ones_step n ∙ ap (λ m. n % 2 + m) (count_bits width (n / 2) (half_below n width h) ∙ sym rest)
    ∙ ap (λ b. b + length (members_from (has_bit n) 1 width)) (sym (bit_at_lowest n))
    ∙ sym (lowest_count (bit_at n 0) 0 (members_from (has_bit n) 1 width) (bit_at-lt n 0))
