-- Two byte strings read as little-endian words of eight bytes: where the words are equal their bytes are, and else the
-- lowest different bit is in the first different byte.
use Rattle.std.proofs.Common.{◌≡◌, ◌≢◌, ℕ, suc, ◌+◌, ◌-◌, ◌/◌, ◌^◌, ◌%◌, ◌<◌, ◌≤◌, inl, inr, List, [], ◌∷◌, ◌++◌}
use Rattle.std.proofs.Common.{length, take, drop, nat_eq, refl, sym, ap, ap₂, ◌∙◌, arith, eq-eqb, take-append-drop}
use Rattle.std.proofs.Common.{length-take-le, length-drop}
use Rattle.std.specs.List.{common_prefix_len}
use Rattle.std.specs.Int.{bit_at, w64}
use Rattle.std.specs.Int.Count.{count_trailing_zeros}
use Rattle.std.specs.Int.Bits.{bit_xor}
use Rattle.std.proofs.lemmas.Nat.Bits.{bit_at_cat_low, bit_at_cat_high, same_from_bits_below, same_from_bits}
use Rattle.std.proofs.lemmas.Nat.Bits.{bit_at_xor, bit_at-trailing_zeros, bit_at-zero, bit_at-lt}
use Rattle.std.proofs.lemmas.Bool.{cases_lt, ne_eqb}
use Rattle.std.proofs.lemmas.List.{drop-drop}
use Rattle.rart_keys.specs.KeyBytes.{AreBytes, AreBytes-take, AreBytes-drop}
use Rattle.rart_keys.specs.LittleEndianWord.{little_endian_number}

-- t is the lowest bit in which a and b differ
record IsLowestDifference (a b t : ℕ) : Type 0 where
  pub differ : bit_at a t ≢ bit_at b t
  pub same : (i : ℕ) → i < t → bit_at a i ≡ bit_at b i

-- the bytes after the first are bytes
AreBytes-tail : (x : ℕ) (xs : List ℕ) → AreBytes (x ∷ xs) → AreBytes xs
AreBytes-tail x xs h i = h (suc i)

-- equal words have all their bytes in common
common_prefix_len-same_word : (xs ys us vs : List ℕ) → AreBytes xs → AreBytes ys → length xs ≡ length ys
    → little_endian_number xs ≡ little_endian_number ys
    → common_prefix_len nat_eq (xs ++ us) (ys ++ vs) ≡ length xs + common_prefix_len nat_eq us vs
common_prefix_len-same_word [] [] us vs p q l e = omega arith
common_prefix_len-same_word [] (y ∷ ys) us vs p q l e = absurd (omega arith)
common_prefix_len-same_word (x ∷ xs) [] us vs p q l e = absurd (omega arith)
common_prefix_len-same_word (x ∷ xs) (y ∷ ys) us vs p q l e =
    let a : x < 2 ^ 8 = p 0 in
    let b : y < 2 ^ 8 = q 0 in
    let first : x ≡ y = omega arith in
    let rest : little_endian_number xs ≡ little_endian_number ys = omega arith in
    let t = common_prefix_len-same_word xs ys us vs (AreBytes-tail x xs p) (AreBytes-tail y ys q) (omega arith) rest in
    rw (eq-eqb x y first, t) (omega arith)

-- words that differ have the bytes below their lowest different bit in common
common_prefix_len-different_word : (xs ys us vs : List ℕ) (t : ℕ) → AreBytes xs → AreBytes ys → length xs ≡ length ys
    → IsLowestDifference (little_endian_number xs) (little_endian_number ys) t
    → common_prefix_len nat_eq (xs ++ us) (ys ++ vs) ≡ t / 8
common_prefix_len-different_word [] [] us vs t p q l d = absurd (d.differ refl)
common_prefix_len-different_word [] (y ∷ ys) us vs t p q l d = absurd (omega arith)
common_prefix_len-different_word (x ∷ xs) [] us vs t p q l d = absurd (omega arith)
common_prefix_len-different_word (x ∷ xs) (y ∷ ys) us vs t p q l d =
    let a = little_endian_number xs in
    let b = little_endian_number ys in
    elim (cases_lt t 8) [
      | inl low ↦
          let first : x ≢ y = λ e. d.differ (bit_at_cat_low a 8 x t low ∙ ap (λ z. bit_at z t) e
          ∙ sym (bit_at_cat_low b 8 y t low)) in
          rw (ne_eqb x y first) (omega arith)
      | inr high ↦
          let first : x ≡ y = same_from_bits_below 8 x y (p 0) (q 0) (λ i k. sym (bit_at_cat_low a 8 x i k)
          ∙ d.same i (omega arith) ∙ bit_at_cat_low b 8 y i k) in
          let rest : IsLowestDifference a b (t - 8) = record {
            differ = λ e. d.differ (bit_at_cat_high a 8 x t (p 0) high ∙ e ∙ sym (bit_at_cat_high b 8 y t (q 0) high));
            same = λ i k. (let up : i + 8 - 8 ≡ i = omega arith in
                ap (bit_at a) (sym up) ∙ sym (bit_at_cat_high a 8 x (i + 8) (p 0) (omega arith))
                ∙ d.same (i + 8) (omega arith) ∙ bit_at_cat_high b 8 y (i + 8) (q 0) (omega arith)
                ∙ ap (bit_at b) up);
          } in
          let r = common_prefix_len-different_word xs ys us vs (t - 8) (AreBytes-tail x xs p) (AreBytes-tail y ys q)
          (omega arith) rest in
          rw (eq-eqb x y first, r) (omega arith)
    ]

-- two bits whose sum is even are the same
even_sum : (p q : ℕ) → p < 2 → q < 2 → (p + q) % 2 ≡ 0 → p ≡ q
even_sum p q a b e = omega arith

-- two bits whose sum is odd differ
odd_sum : (p q : ℕ) → p < 2 → q < 2 → (p + q) % 2 ≡ 1 → p ≢ q
odd_sum p q a b e h = omega arith

-- numbers agree in a bit that their exclusive or lacks
same_bit : (m n i : ℕ) → bit_at (bit_xor m n) i ≡ 0 → bit_at m i ≡ bit_at n i
same_bit m n i z = even_sum _ _ (bit_at-lt m i) (bit_at-lt n i) (sym (bit_at_xor m n i) ∙ z)

-- numbers are equal where their exclusive or is 0
same_from_xor : (m n : ℕ) → bit_xor m n ≡ 0 → m ≡ n
same_from_xor m n z = same_from_bits m n (λ i. same_bit m n i (ap (λ v. bit_at v i) z ∙ bit_at-zero i))

-- else their lowest difference is the lowest bit of their exclusive or
lowest_from_xor : (m n : ℕ) → 0 < bit_xor m n → bit_xor m n < 2 ^ 64
    → IsLowestDifference m n (count_trailing_zeros 64 (bit_xor m n))
lowest_from_xor m n z fits =
    let t = count_trailing_zeros 64 (bit_xor m n) in
    let low = bit_at-trailing_zeros w64 (bit_xor m n) z fits in
    record {
      differ = odd_sum _ _ (bit_at-lt m t) (bit_at-lt n t) (sym (bit_at_xor m n t) ∙ low.1);
      same = λ i k. same_bit m n i (low.2 i k);
    }

-- the words at a place of two byte strings that are long enough
module _ (xs ys : List ℕ) (i : ℕ) (bytes_x : AreBytes xs) (bytes_y : AreBytes ys) (in_x : i + 8 ≤ length xs)
    (in_y : i + 8 ≤ length ys) where
  word_x : AreBytes (take 8 (drop i xs))
  word_x = AreBytes-take 8 (drop i xs) (AreBytes-drop i xs bytes_x)

  word_y : AreBytes (take 8 (drop i ys))
  word_y = AreBytes-take 8 (drop i ys) (AreBytes-drop i ys bytes_y)

  len_x : length (take 8 (drop i xs)) ≡ 8
  len_x = length-take-le 8 (drop i xs) (omega (arith, length-drop i xs))

  len_y : length (take 8 (drop i ys)) ≡ 8
  len_y = length-take-le 8 (drop i ys) (omega (arith, length-drop i ys))

  split : common_prefix_len nat_eq (drop i xs) (drop i ys)
      ≡ common_prefix_len nat_eq (take 8 (drop i xs) ++ drop (i + 8) xs) (take 8 (drop i ys) ++ drop (i + 8) ys)
  split = ap₂ (common_prefix_len nat_eq) (sym (take-append-drop 8 (drop i xs))
      ∙ ap (λ z. take 8 (drop i xs) ++ z) (drop-drop 8 i xs)) (sym (take-append-drop 8 (drop i ys))
      ∙ ap (λ z. take 8 (drop i ys) ++ z) (drop-drop 8 i ys))

  -- equal words: the eight bytes are common, and then what is common after them
  pub common_prefix_len-at_same_word : (m n : ℕ) → m ≡ little_endian_number (take 8 (drop i xs))
      → n ≡ little_endian_number (take 8 (drop i ys)) → bit_xor m n ≡ 0
      → common_prefix_len nat_eq (drop i xs) (drop i ys)
      ≡ 8 + common_prefix_len nat_eq (drop (i + 8) xs) (drop (i + 8) ys)
  common_prefix_len-at_same_word m n e f z =
      split ∙ common_prefix_len-same_word _ _ _ _ word_x word_y (len_x ∙ sym len_y) (sym e ∙ same_from_xor m n z ∙ f)
      ∙ ap (λ k. k + common_prefix_len nat_eq (drop (i + 8) xs) (drop (i + 8) ys)) len_x

  lowest_byte : (m n t : ℕ) → m ≡ little_endian_number (take 8 (drop i xs))
      → n ≡ little_endian_number (take 8 (drop i ys)) → IsLowestDifference m n t
      → common_prefix_len nat_eq (drop i xs) (drop i ys) ≡ t / 8
  lowest_byte m n t e f d = split ∙ common_prefix_len-different_word _ _ _ _ t word_x word_y (len_x ∙ sym len_y)
      (rw e at rw f at d)

  -- different words: the bytes below the lowest bit of their exclusive or are common
  pub common_prefix_len-at_different_word : (m n : ℕ) → m ≡ little_endian_number (take 8 (drop i xs))
      → n ≡ little_endian_number (take 8 (drop i ys)) → 0 < bit_xor m n → bit_xor m n < 2 ^ 64
      → common_prefix_len nat_eq (drop i xs) (drop i ys) ≡ count_trailing_zeros 64 (bit_xor m n) / 8
  common_prefix_len-at_different_word m n e f z fits = lowest_byte m n _ e f (lowest_from_xor m n z fits)
