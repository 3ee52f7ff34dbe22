-- The codes of the beginnings of a byte, as a mask of the codes below 64, and the longest of them in a set.
use Rattle.std.proofs.Common.{◌≡◌, ℕ, zero, suc, ◌+◌, ◌*◌, ◌/◌, ◌%◌, ◌^◌, ◌<◌, ◌≤◌, ◌==◌, ◌||◌, ◌&&◌, ⊎_elim}
use Rattle.std.proofs.Common.{Bool, true, false, not, min, eqb, List, [], ◌∷◌, map, refl, sym, ap, ◌∙◌, arith, eqb-true}
use Rattle.std.proofs.Common.{count_ones, length}
use Rattle.std.proofs.Common.{Some, None, bit_and, w64}
use mir.Val.{bits}
use Rattle.std.specs.Prelude.{slice_index}
use Rattle.std.proofs.Math.Pow.{pow_mono}
use Rattle.std.proofs.lemmas.Nat.Bits.{bit_at_and, bit_at-lt}
use Rattle.rart_keys.proofs.strings.ByteOrder.{order}
use Rattle.rart_parts.specs.Bits.{has_bit, members_from}
use Rattle.rart_parts.proofs.sets.Members.{length-members_from-add, length-members_from-moved}
use Rattle.rart_parts.proofs.sets.WordBits.{count_bits}
use Rattle.rart_cidr.specs.Bits.{code}
use Rattle.rart_cidr.specs.CodeSets.{IsLongestCode, has_code, rank_of}
use Rattle.rart_cidr.specs.Codes.{length_of_code}
use Rattle.rart_cidr.specs.declared.code_set.TheConstants.{BEGINNINGS}
use Rattle.rart_cidr.proofs.networks.BitLemmas.{holds_at, holds_below}
use Rattle.rart_cidr.proofs.routes.OneLemmas.{code-length}

-- ---- the mask
-- c is the code of at most five of the five bits that i is
abbrev begins_five : ℕ → ℕ → Bool
begins_five i c =
    c == 1 || (c == 2 + i / 16 || (c == 4 + i / 8 || (c == 8 + i / 4 || (c == 16 + i / 2 || c == 32 + i))))

abbrev same : Bool → Bool → Bool
same true b = b
same false b = not b

same-equal : (a b : Bool) → same a b ≡ true → a ≡ b
same-equal true b h = sym h
same-equal false true h = h
same-equal false false h = refl

-- each bit of the table
mask-bit : (i c : ℕ) → i < 32 → c < 64 → has_bit (slice_index BEGINNINGS i) c ≡ begins_five i c
unfolding holds_below
mask-bit i c h l = same-equal _ _ (holds_at (λ b. same (has_bit (slice_index BEGINNINGS i) b) (begins_five i b)) 64 c
    (holds_at (λ j. holds_below (λ b. same (has_bit (slice_index BEGINNINGS j) b) (begins_five j b)) 64) 32 i refl h) l)

one-of : {P : Type 0} → (a b : Bool) → (a ≡ true → P) → (b ≡ true → P) → (a || b) ≡ true → P
one-of true b f g h = f refl
one-of false b f g h = g h

-- the code of r bits of x, where there are at most five
abbrev Begins : ℕ → ℕ → Type 0
Begins x c = (r : ℕ) × (r < 6) × (c ≡ code x r)

five-code : (x c : ℕ) → x < 256 → begins_five (x / 8) c ≡ true → Begins x c
five-code x c h t =
    let i : ℕ = x / 8 in
    one-of (c == 1) (c == 2 + i / 16 || (c == 4 + i / 8 || (c == 8 + i / 4 || (c == 16 + i / 2 || c == 32 + i))))
    (λ e. (0, omega arith, let s = eqb-true c 1 e in omega (arith, s)))
    (λ t1. one-of (c == 2 + i / 16) (c == 4 + i / 8 || (c == 8 + i / 4 || (c == 16 + i / 2 || c == 32 + i)))
    (λ e. (1, omega arith, let s = eqb-true c (2 + i / 16) e in omega (arith, s)))
    (λ t2. one-of (c == 4 + i / 8) (c == 8 + i / 4 || (c == 16 + i / 2 || c == 32 + i))
    (λ e. (2, omega arith, let s = eqb-true c (4 + i / 8) e in omega (arith, s)))
    (λ t3. one-of (c == 8 + i / 4) (c == 16 + i / 2 || c == 32 + i)
    (λ e. (3, omega arith, let s = eqb-true c (8 + i / 4) e in omega (arith, s)))
    (λ t4. one-of (c == 16 + i / 2) (c == 32 + i)
    (λ e. (4, omega arith, let s = eqb-true c (16 + i / 2) e in omega (arith, s)))
    (λ e. (5, omega arith, let s = eqb-true c (32 + i) e in omega (arith, s)))
    t4) t3) t2) t1) t

code-five : (x r : ℕ) → x < 256 → r < 6 → begins_five (x / 8) (code x r) ≡ true
unfolding holds_below
code-five x zero h l = holds_at (λ y. begins_five (y / 8) (code y 0)) 256 x refl h
code-five x (suc zero) h l = holds_at (λ y. begins_five (y / 8) (code y 1)) 256 x refl h
code-five x (suc (suc zero)) h l = holds_at (λ y. begins_five (y / 8) (code y 2)) 256 x refl h
code-five x (suc (suc (suc zero))) h l = holds_at (λ y. begins_five (y / 8) (code y 3)) 256 x refl h
code-five x (suc (suc (suc (suc zero)))) h l = holds_at (λ y. begins_five (y / 8) (code y 4)) 256 x refl h
code-five x (suc (suc (suc (suc (suc zero))))) h l = holds_at (λ y. begins_five (y / 8) (code y 5)) 256 x refl h
code-five x (suc (suc (suc (suc (suc (suc r)))))) h l = absurd (omega (arith, l))

-- ---- more bits have the greater code
code-low : (x r : ℕ) → 2 ^ r ≤ code x r
code-low x r = omega arith

code-high : (x r : ℕ) → x < 256 → r < 6 → code x r < 2 ^ suc r
code-high x zero h l = omega arith
code-high x (suc zero) h l = omega arith
code-high x (suc (suc zero)) h l = omega arith
code-high x (suc (suc (suc zero))) h l = omega arith
code-high x (suc (suc (suc (suc zero)))) h l = omega arith
code-high x (suc (suc (suc (suc (suc zero))))) h l = omega arith
code-high x (suc (suc (suc (suc (suc (suc r)))))) h l = absurd (omega (arith, l))

code-greater : (x r s : ℕ) → x < 256 → r < s → s < 6 → code x r < code x s
code-greater x r s h l m =
    let high = code-high x r h (omega (arith, l, m)) in
    let low = code-low x s in
    let grows : 2 ^ suc r ≤ 2 ^ s = pow_mono {i = suc r} {j = s} (omega (arith, l)) in
    omega (arith, high, low, grows)

-- `above` is the least code of more than `most` bits, of at most five
pub record IsLimit (most above : ℕ) : Type 0 where
  pub within : above ≤ 64
  pub keeps : (r : ℕ) → r ≤ most → r < 6 → 2 ^ suc r ≤ above
  pub cuts : (r : ℕ) → r < 6 → 2 ^ r < above → r ≤ most

pub few_bits : (most above : ℕ) → most < 5 → above ≡ 2 ^ suc most → IsLimit most above
few_bits most above h e = record {
  within = let small : 2 ^ suc most ≤ 2 ^ 6 = pow_mono {i = suc most} {j = 6} (omega (arith, h)) in
      omega (arith, small, e);
  keeps = λ r l m. let grows : 2 ^ suc r ≤ 2 ^ suc most = pow_mono {i = suc r} {j = suc most} (omega (arith, l)) in
      omega (arith, grows, e);
  cuts = λ r l m. ⊎_elim (λ k. omega (arith, k)) (⊎_elim (λ k. omega (arith, k)) (λ k. absurd
      (let grows : 2 ^ suc most ≤ 2 ^ r = pow_mono {i = suc most} {j = r} (omega (arith, k)) in
      omega (arith, grows, e, m)))) (order r most);
}

-- two, shifted
pub shifted : (k : ℕ) → k < 5 → 2 * 2 ^ k % 2 ^ bits w64 ≡ 2 ^ suc k
shifted zero h = refl
shifted (suc zero) h = refl
shifted (suc (suc zero)) h = refl
shifted (suc (suc (suc zero))) h = refl
shifted (suc (suc (suc (suc zero)))) h = refl
shifted (suc (suc (suc (suc (suc k))))) h = absurd (omega (arith, h))

pub many_bits : (most : ℕ) → 5 ≤ most → IsLimit most 64
many_bits most h = record {
  within = omega arith;
  keeps = λ r l m. let small : 2 ^ suc r ≤ 2 ^ 6 = pow_mono {i = suc r} {j = 6} (omega (arith, m)) in
      omega (arith, small);
  cuts = λ r l m. omega (arith, l, h);
}

-- ---- the bits of two words
both-bits : (a b : ℕ) → a < 2 → b < 2 → eqb (min a b) 1 ≡ (eqb a 1 && eqb b 1)
both-bits zero zero h l = refl
both-bits zero (suc zero) h l = refl
both-bits zero (suc (suc b)) h l = absurd (omega (arith, l))
both-bits (suc zero) zero h l = refl
both-bits (suc zero) (suc zero) h l = refl
both-bits (suc zero) (suc (suc b)) h l = absurd (omega (arith, l))
both-bits (suc (suc a)) b h l = absurd (omega (arith, h))

and-bit : (w m c : ℕ) → has_bit (bit_and w m) c ≡ (has_bit w c && has_bit m c)
and-bit w m c = ap (λ b. eqb b 1) (bit_at_and w m c) ∙ both-bits _ _ (bit_at-lt w c) (bit_at-lt m c)

and-true : (a b : Bool) → (a && b) ≡ true → (a ≡ true) × (b ≡ true)
and-true true b h = (refl, h)
and-true false b h = absurd (cc)

and-false : (a b : Bool) → (a && b) ≡ false → b ≡ true → a ≡ false
and-false true b h e = sym e ∙ h
and-false false b h e = refl

same-words : (ws : List ℕ) → map (λ w. w) ws ≡ ws
same-words [] = refl
same-words (w ∷ ws) = ap (λ l. w ∷ l) (same-words ws)

-- bit j of word i
word-bit : (words : List ℕ) (i j : ℕ) → j < 64 → has_code words (i * 64 + j) ≡ has_bit (slice_index words i) j
word-bit words i j h =
    let word : (i * 64 + j) / 64 ≡ i = omega (arith, h) in
    let bit : (i * 64 + j) % 64 ≡ j = omega (arith, h) in
    λ t. has_bit (slice_index (same-words words t) (word t)) (bit t)

-- the codes before a word, and those of its first n bits, which are the bits of m
pub word-count : (words : List ℕ) (i n m : ℕ) → n ≤ 64 → m < 2 ^ n
    → ((j : ℕ) → j < n → has_bit m j ≡ has_bit (slice_index words i) j)
    → rank_of words (i * 64) + count_ones m ≡ rank_of words (i * 64 + n)
word-count words i n m h fits e =
    let ones = count_bits n m fits in
    let row : length (members_from (has_bit m) 0 n) ≡ length (members_from (has_code words) (0 + i * 64) n)
    = length-members_from-moved (has_bit m) (has_code words) 0 (0 + i * 64) n (λ j l. ap (has_bit m) (omega arith)
    ∙ e j l ∙ sym (word-bit words i j (omega (arith, l, h))) ∙ ap (has_code words) (omega arith)) in
    let all = length-members_from-add (has_code words) 0 (i * 64) n in
    omega (arith, ones, row, all)

-- the codes below 64 are in the first word
first-word : (words : List ℕ) (c : ℕ) → c < 64 → has_code words c ≡ has_bit (slice_index words 0) c
first-word words c h =
    let word : c / 64 ≡ 0 = omega arith in
    let bit : c % 64 ≡ c = omega arith in
    λ i. has_bit (slice_index (same-words words i) (word i)) (bit i)

-- ---- the longest
-- the first word with all but the beginnings of x cleared, where i is the first five bits of x
module _ (words : List ℕ) (x most above i : ℕ) (byte : x < 256) (small : most < 8) (at : i ≡ x / 8)
    (limit : IsLimit most above) (seven : 7 ≤ most → has_code words (code x 7) ≡ false)
    (six : 6 ≤ most → has_code words (code x 6) ≡ false) where
  -- no code of more bits than five, and none of those whose bits are clear
  none-at : (r : ℕ) → r ≤ most
      → (r < 6 → has_bit (bit_and (slice_index words 0) (slice_index BEGINNINGS i)) (code x r) ≡ false)
      → has_code words (code x r) ≡ false
  none-at r h clear = ⊎_elim
      (λ l.
      let high = code-high x r byte l in
      let keeps = limit.keeps r h l in
      let within = limit.within in
      let few : code x r < 64 = omega (arith, high, keeps, within) in
      first-word words (code x r) few
      ∙ and-false (has_bit (slice_index words 0) (code x r)) (has_bit (slice_index BEGINNINGS i) (code x r))
      (sym (and-bit (slice_index words 0) (slice_index BEGINNINGS i) (code x r)) ∙ clear l)
      (mask-bit i (code x r) (omega (arith, at, byte)) few ∙ ap (λ z. begins_five z (code x r)) at
      ∙ code-five x r byte l))
      (⊎_elim
      (λ e. ap (λ z. has_code words (code x z)) e ∙ six (omega (arith, e, h)))
      (λ l.
      let e : r ≡ 7 = omega (arith, l, h, small) in
      ap (λ z. has_code words (code x z)) e ∙ seven (omega (arith, e, h))))
      (order r 6)

  pub none_masked : ((k : ℕ) → k < above
      → has_bit (bit_and (slice_index words 0) (slice_index BEGINNINGS i)) k ≡ false)
      → IsLongestCode words x most None
  none_masked clear = λ r h. none-at r h (λ l.
      let high = code-high x r byte l in
      let keeps = limit.keeps r h l in
      clear (code x r) (omega (arith, high, keeps)))

  pub found_masked : (p bits : ℕ) → bits ≡ length_of_code p → (p < above)
      × (has_bit (bit_and (slice_index words 0) (slice_index BEGINNINGS i)) p ≡ true)
      × ((k : ℕ) → p < k → k < above
      → has_bit (bit_and (slice_index words 0) (slice_index BEGINNINGS i)) k ≡ false)
      → IsLongestCode words x most (Some bits)
  found_masked p bits e f =
      let within = limit.within in
      let under = f.0 in
      let few : p < 64 = omega (arith, under, within) in
      let parts = and-true (has_bit (slice_index words 0) p) (has_bit (slice_index BEGINNINGS i) p)
      (sym (and-bit (slice_index words 0) (slice_index BEGINNINGS i) p) ∙ f.1) in
      let b = five-code x p byte (ap (λ z. begins_five z p) (sym at) ∙ sym (mask-bit i p (omega (arith, at, byte)) few)
      ∙ parts.1) in
      let bound = b.1 in
      let is : p ≡ code x b.0 = b.2 in
      let len : bits ≡ b.0 = e ∙ ap length_of_code is ∙ code-length x b.0 byte (omega (arith, bound)) in
      let low = code-low x b.0 in
      let most_bits : b.0 ≤ most = limit.cuts b.0 bound (omega (arith, low, is, under)) in (
        omega (arith, len, most_bits),
        ap (λ z. has_code words (code x z)) len ∙ ap (has_code words) (sym is)
            ∙ first-word words p few ∙ parts.0,
        λ r l h. none-at r h (λ m.
            let high = code-high x r byte m in
            let keeps = limit.keeps r h m in
            let more = code-greater x b.0 r byte (omega (arith, l, len)) m in
            f.2 (code x r) (omega (arith, more, is)) (omega (arith, high, keeps))),
      )
