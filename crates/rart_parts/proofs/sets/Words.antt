-- A row of words, read as a set of positions: position k is bit `k mod width` of word `k div width`.
use Rattle.std.proofs.Common.{◌≡◌, ◌≢◌, ℕ, suc, ◌<◌, ◌≤◌, ◌+◌, ◌-◌, ◌*◌, ◌/◌, ◌%◌, Bool, true, false, eqb}
use Rattle.std.proofs.Common.{List, map, length, get_or, set, subst, sym, ap, ◌∙◌, arith, ⊎_elim, rules}
use Rattle.std.specs.Prelude.{nat_le, nat_lt, ◌&&◌, replicate}
use Rattle.std.proofs.lemmas.Bool.{eq-eqb, ne_eqb, cases_lt}
use Rattle.std.proofs.lemmas.Bool.Decides.{eqb_tells}
use Rattle.std.proofs.lemmas.List.{get_or-set_same, get_or-set_other, get_or-map, get_or-replicate, length-replicate}
use Rattle.std.proofs.lemmas.List.{length-set}
use Rattle.std.proofs.lemmas.Nat.{div-mul-add, mod-mul-add, div-add-mod'}
use Rattle.std.proofs.Math.Nat.{mod-lt, div-add-mod, mul-le-mul_right}
use Rattle.rart_parts.specs.Bits.{has_bit, words_have, members_from, members}
use Rattle.rart_parts.proofs.sets.WordBits.{no_bits}
use Rattle.rart_parts.proofs.sets.Members.{length-members_from-add, length-members_from-moved, length-members_from}

word_within : (s width k : ℕ) → 0 < width → k < s * width → k / width < s
word_within s width k p h = search rules

-- the rows before the next one, and it, are below the end
next_row : (i s width : ℕ) → i < s → i * width + width ≤ s * width
next_row i s width h = let m : suc i * width ≤ s * width = mul-le-mul_right width h in omega (arith, m)

-- a place in a row is below the end
in_row : (i s width at : ℕ) → i < s → at < width → i * width + at < s * width
in_row i s width at h l = omega (arith, next_row i s width h)

-- the row of the position before `end`
pub row_before : (end s width w : ℕ) → w ≡ width → 0 < width → 0 < end → end ≤ s * width
    → ((end - 1) / w < s) × ((end - 1) / w * width < end) × (end ≤ (end - 1) / w * width + width)
row_before end s width w e p h l =
    let at = div-add-mod' (end - 1) width in
    let below = mod-lt (end - 1) p in
    rw e (
      word_within s width (end - 1) p (omega (arith, h, l)),
      omega (arith, h, at),
      omega (arith, h, at, below),
    )

module _ {W : Type 0} (width : ℕ) (number : W → ℕ) (p : 0 < width) where
  word_is : (ws : List W) (i : ℕ) (x : W) → i < length ws → x ≡ get_or ws i x → get_or (map number ws) i 0 ≡ number x
  word_is ws i x h e = get_or-map number ws i x 0 h ∙ ap number (sym e)

  -- no word has a bit
  pub none_have : (z : W) (s k : ℕ) → number z ≡ 0 → k < s * width → words_have width number (replicate s z) k ≡ false
  none_have z s k e h =
      let lt = word_within s width k p h in
      ap (λ n. has_bit n (k % width)) (get_or-map number (replicate s z) (k / width) z 0 (simp length-replicate lt)
      ∙ ap number (get_or-replicate s (k / width) z z lt) ∙ e) ∙ no_bits (k % width)

  same_place : (k q : ℕ) → k / width ≡ q / width → eqb (k % width) (q % width) ≡ eqb k q
  same_place k q e = ⊎_elim
      (λ t. t.0 ∙ sym (eq-eqb k q (sym (div-add-mod k width) ∙ (λ i. width * (e i) + t.1 i) ∙ div-add-mod q width)))
      (λ t. t.0 ∙ sym (ne_eqb k q (λ j. t.1 (ap (λ m. m % width) j))))
      (eqb_tells (k % width) (q % width))

  -- a word was replaced by one that differs at one bit, as `change` says
  pub changed_has : (change : Bool → Bool → Bool) → ((b : Bool) → change false b ≡ b)
      → (ws : List W) (q k : ℕ) (x y : W) → q < length ws * width → k < length ws * width → x ≡ get_or ws (q / width) x
      → ((i : ℕ) → i < width → has_bit (number y) i ≡ change (eqb i (q % width)) (has_bit (number x) i))
      → words_have width number (set ws (q / width) y) k ≡ change (eqb k q) (words_have width number ws k)
  changed_has change kept ws q k x y hq hk e one =
      let lq = word_within (length ws) width q p hq in
      let lk = word_within (length ws) width k p hk in
      let within : k / width < length (set ws (q / width) y) = simp length-set lk in
      ⊎_elim
      (λ t.
      let here : get_or (set ws (q / width) y) (k / width) y ≡ y = ap (λ j. get_or (set ws (q / width) y) j y) t.1
      ∙ get_or-set_same ws (q / width) y y lq in
      let there : x ≡ get_or ws (k / width) x = e ∙ ap (λ j. get_or ws j x) (sym t.1) in
      ap (λ n. has_bit n (k % width)) (word_is (set ws (q / width) y) (k / width) y within (sym here))
      ∙ one (k % width) (mod-lt k p) ∙ (λ i. change (same_place k q t.1 i)
      (has_bit (sym (word_is ws (k / width) x lk there) i) (k % width))))
      (λ t.
      let same : get_or (set ws (q / width) y) (k / width) x ≡ get_or ws (k / width) x
      = get_or-set_other ws (q / width) (k / width) y x t.1 in
      ap (λ n. has_bit n (k % width)) (get_or-map number (set ws (q / width) y) (k / width) x 0 within ∙ ap number same
      ∙ sym (get_or-map number ws (k / width) x 0 lk))
      ∙ sym (kept (has_bit (get_or (map number ws) (k / width) 0) (k % width)))
      ∙ ap (λ b. change b (has_bit (get_or (map number ws) (k / width) 0) (k % width)))
      (sym (ne_eqb k q (λ j. t.1 (ap (λ m. m / width) j)))))
      (eqb_tells (k / width) (q / width))

  -- bit j of word i
  row_has : (ws : List W) (i j : ℕ) (x : W) → i < length ws → x ≡ get_or ws i x → j < width
      → words_have width number ws (i * width + j) ≡ has_bit (number x) j
  row_has ws i j x h e l =
      (λ r. has_bit (get_or (map number ws) (div-mul-add i width j l r) 0) (mod-mul-add i width j l r))
      ∙ ap (λ n. has_bit n j) (word_is ws i x h e)

  -- the word of another row was replaced
  other_row : (ws : List W) (i k : ℕ) (y : W) → k < length ws * width → k / width ≢ i
      → words_have width number (set ws i y) k ≡ words_have width number ws k
  other_row ws i k y h other =
      let lk = word_within (length ws) width k p h in
      let within : k / width < length (set ws i y) = simp length-set lk in
      ap (λ n. has_bit n (k % width)) (get_or-map number (set ws i y) (k / width) y 0 within
      ∙ ap number (get_or-set_other ws i (k / width) y y other) ∙ sym (get_or-map number ws (k / width) y 0 lk))

  -- a position in the row of word i
  split_row : (i k : ℕ) → i * width ≤ k → k < i * width + width → (j : ℕ) × (j < width) × (k ≡ i * width + j)
  split_row i k low high = let j : ℕ = k - i * width in (j, omega arith, omega arith)

  -- word i of s words, a test of its bits, and what is known of the rows before it or after it
  module _ (ws : List W) (s i : ℕ) (x : W) (len : length ws ≡ s) (h : i < s) (e : x ≡ get_or ws i x) where
    row_reads : (j : ℕ) → j < width → words_have width number ws (i * width + j) ≡ has_bit (number x) j
    row_reads j l = row_has ws i j x (omega (arith, h, len)) e l

    module _ (test : Bool → Bool) where
      row_fails : ((j : ℕ) → j < width → test (has_bit (number x) j) ≡ false) → (k : ℕ) → i * width ≤ k
          → k < i * width + width → test (words_have width number ws k) ≡ false
      row_fails none k low high =
          let r = split_row i k low high in
          ap (λ n. test (words_have width number ws n)) r.2 ∙ ap test (row_reads r.0 r.1) ∙ none r.0 r.1

      pub below_more : ((k : ℕ) → k < i * width → test (words_have width number ws k) ≡ false)
          → ((j : ℕ) → j < width → test (has_bit (number x) j) ≡ false)
          → (k : ℕ) → k < (i + 1) * width → test (words_have width number ws k) ≡ false
      below_more below none k l = ⊎_elim (λ m. below k m) (λ m. row_fails none k m (omega arith))
          (cases_lt k (i * width))

      pub first_found : (at : ℕ) → ((k : ℕ) → k < i * width → test (words_have width number ws k) ≡ false)
          → (at < width) × (test (has_bit (number x) at) ≡ true)
          × ((j : ℕ) → j < at → test (has_bit (number x) j) ≡ false)
          → (i * width + at < s * width) × (test (words_have width number ws (i * width + at)) ≡ true)
          × ((k : ℕ) → k < i * width + at → test (words_have width number ws k) ≡ false)
      first_found at below f = (
        in_row i s width at h f.0,
        ap test (row_reads at f.0) ∙ f.1,
        λ k l. ⊎_elim (λ m. below k m) (λ m. let r = split_row i k m (omega (arith, l, f.0)) in
            ap (λ n. test (words_have width number ws n)) r.2 ∙ ap test (row_reads r.0 r.1)
            ∙ f.2 r.0 (omega (arith, l, r.2))) (cases_lt k (i * width)),
      )

    -- no position from `end` on, which is in row i or after it, is in the set, so far as it is below `above`
    module _ (end above : ℕ) (low : i * width ≤ end) (high : end ≤ i * width + width)
        (past : (k : ℕ) → end ≤ k → k < above → words_have width number ws k ≡ false) where
      pub above_more : ((j : ℕ) → j < end - i * width → has_bit (number x) j ≡ false) → (k : ℕ) → i * width ≤ k
          → k < above → words_have width number ws k ≡ false
      above_more none k l m = ⊎_elim (λ q. let r = split_row i k l (omega (arith, q, high)) in
          ap (words_have width number ws) r.2 ∙ row_reads r.0 r.1 ∙ none r.0 (omega (arith, q, r.2)))
          (λ q. past k q m) (cases_lt k end)

      pub last_found : end ≤ above → (at : ℕ) → (at < end - i * width) × (has_bit (number x) at ≡ true)
          × ((j : ℕ) → at < j → j < end - i * width → has_bit (number x) j ≡ false)
          → (i * width + at < above) × (words_have width number ws (i * width + at) ≡ true)
          × ((k : ℕ) → i * width + at < k → k < above → words_have width number ws k ≡ false)
      last_found within at f = (
        omega (arith, within, f.0, low),
        row_reads at (omega (arith, f.0, high)) ∙ f.1,
        λ k l m. ⊎_elim (λ q. let r = split_row i k (omega arith) (omega (arith, q, high)) in
            ap (words_have width number ws) r.2 ∙ row_reads r.0 r.1
            ∙ f.2 r.0 (omega (arith, l, r.2)) (omega (arith, q, r.2)))
            (λ q. past k q m) (cases_lt k end),
      )

    -- the positions of one more word
    pub size_more : (size count : ℕ) → size ≡ length (members (words_have width number ws) (i * width))
        → count ≡ length (members (has_bit (number x)) width)
        → size + count ≡ length (members (words_have width number ws) ((i + 1) * width))
    size_more size count a b =
        let next : (i + 1) * width ≡ i * width + width = omega arith in
        let row : length (members_from (words_have width number ws) (0 + i * width) width)
        ≡ length (members_from (has_bit (number x)) 0 width)
        = length-members_from-moved _ _ (0 + i * width) 0 width (λ j l. ap (words_have width number ws) (omega arith)
        ∙ row_reads j l ∙ ap (has_bit (number x)) (omega arith)) in
        omega (
          arith,
          a,
          b,
          row,
          length-members_from-add (words_have width number ws) 0 (i * width) width,
          ap
              (λ n. length (members (words_have width number ws) n)) next,
        )

  -- no more positions than bits
  pub size_below : (ws : List W) (i s : ℕ) → i < s → length (members (words_have width number ws) ((i + 1) * width))
      ≤ s * width
  size_below ws i s h = omega (
    arith,
    length-members_from (words_have width number ws) 0 ((i + 1) * width),
    next_row i s
        width h,
  )

  -- word i has lost its bits below `from`, and the words before it the positions up to q
  module _ (ws first : List W) (s i q from : ℕ) (x y : W) (len : length ws ≡ s) (h : i < s) (e : x ≡ get_or ws i x)
      (one : (j : ℕ) → j < width → has_bit (number y) j ≡ (nat_le from j && has_bit (number x) j))
      (same : (j : ℕ) → j < width → nat_le from j ≡ nat_lt q (i * width + j))
      (passed : (k : ℕ) → k < i * width
      → words_have width number ws k ≡ (nat_lt q k && words_have width number first k))
      (left : (k : ℕ) → i * width ≤ k → k < s * width → words_have width number ws k ≡ words_have width number first k)
    where
      in_this_row : (j : ℕ) → j < width → words_have width number (set ws i y) (i * width + j)
          ≡ (nat_lt q (i * width + j) && words_have width number first (i * width + j))
      in_this_row j l =
          let here : y ≡ get_or (set ws i y) i y = sym (get_or-set_same ws i y y (omega (arith, h, len))) in
          let old = sym (row_has ws i j x (omega (arith, h, len)) e l)
          ∙ left (i * width + j) (omega arith) (in_row i s width j h l) in
          row_has (set ws i y) i j y (simp length-set (omega (arith, h, len))) here l ∙ one j l
          ∙ (λ t. same j l t && old t)

      pub passed_more : (k : ℕ) → k < (i + 1) * width
          → words_have width number (set ws i y) k ≡ (nat_lt q k && words_have width number first k)
      passed_more k l =
          let end = next_row i s width h in
          ⊎_elim
          (λ m. other_row ws i k y (subst (λ n. k < n * width) (sym len) (omega (arith, m, end)))
          (λ d. omega (arith, m, div-add-mod' k width, ap (λ n. n * width) d)) ∙ passed k m)
          (λ m. let r = split_row i k m (omega (arith, l)) in
          ap (words_have width number (set ws i y)) r.2 ∙ in_this_row r.0 r.1
          ∙ sym (ap (λ n. nat_lt q n && words_have width number first n) r.2))
          (cases_lt k (i * width))

      pub left_more : (k : ℕ) → (i + 1) * width ≤ k → k < s * width
          → words_have width number (set ws i y) k ≡ words_have width number first k
      left_more k low high = other_row ws i k y (subst (λ n. k < n * width) (sym len) high)
          (λ d. omega (arith, low, div-add-mod' k width, mod-lt k p, ap (λ n. n * width) d))
          ∙ left k (omega (arith, low)) high
