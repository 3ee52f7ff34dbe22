-- An index from bytes to slots through its calls.
use Rattle.std.proofs.Common.{◌≡◌, ◌≢◌, ℕ, zero, suc, ◌<◌, ◌≤◌, ◌+◌, ◌||◌, ◌&&◌, not, Bool, true, false, cond, eqb, ltb}
use Rattle.std.proofs.Common.{List, [], ◌∷◌, Option, Some, None, length, map, get_or, set, replicate, sym, ap, ◌∙◌}
use Rattle.std.proofs.Common.{refl, arith}
use Rattle.std.proofs.lemmas.Bool.{ne_eqb}
use Rattle.std.proofs.Math.ListN.{get_or-map}
use Rattle.std.proofs.lemmas.Grind.{get_or_default_zero}
use Rattle.std.proofs.lemmas.List.{length-set, length-replicate, map-set}
use Rattle.rart_parts.specs.Bits.{words_have, members_from, positions_above, IsFirst}
use Rattle.rart_parts.specs.Entries.{entries_above}
use Rattle.rart_parts.specs.Places.{is_used, numbered_values}
use Rattle.rart_maps.specs.ByteIndex.{slot_of, IsByteIndex, with_slots, AreBytes}
use Rattle.rart_parts.proofs.PlaceLemmas.{used_with, used_without, none_used}

pub no_slots : (n : ℕ) → map slot_of (replicate n 255) ≡ replicate n None
no_slots zero = refl
no_slots (suc n) = ap (λ l. None ∷ l) (no_slots n)

slot_below : (s : ℕ) → s < 255 → slot_of s ≡ Some s
slot_below s h = ap (λ b. cond b None (Some s)) (ne_eqb s 255 (λ q. omega (arith, q, h)))

length-map_slots : (xs : List ℕ) → length (map slot_of xs) ≡ length xs
length-map_slots [] = refl
length-map_slots (x ∷ xs) = ap suc (length-map_slots xs)

abbrev has : List ℕ → ℕ → Bool
has = words_have 64 (λ w. w)

pub index_start : (words : List ℕ) → ((k : ℕ) → k < 256 → has words k ≡ false) → IsByteIndex words (replicate 256 255)
index_start words none = record {
  whole = length-replicate {A = ℕ} 256 255;
  agrees = λ k h. none k h ∙ sym (ap (λ os. is_used os k) (no_slots 256) ∙ none_used ℕ 256 k);
}

module _ {words slots : List ℕ} (i : IsByteIndex words slots) (words' : List ℕ) (b : ℕ) (h : b < 256) where
  pub slots_with : (s : ℕ) → s < 255 → map slot_of (set slots b s) ≡ set (map slot_of slots) b (Some s)
  slots_with s l = map-set slot_of slots b s ∙ ap (set (map slot_of slots) b) (slot_below s l)

  pub slots_without : map slot_of (set slots b 255) ≡ set (map slot_of slots) b None
  slots_without = map-set slot_of slots b 255

  pub index_with : (s : ℕ) → s < 255 → ((k : ℕ) → k < 256 → has words' k ≡ (eqb k b || has words k))
      → IsByteIndex words' (set slots b s)
  index_with s l e = record {
    whole = length-set slots b s ∙ i.whole;
    agrees = λ k m. e k m ∙ ap (λ t. eqb k b || t) (i.agrees k m)
        ∙ sym (ap (λ os. is_used os k) (slots_with s l)
        ∙ used_with (map slot_of slots) b s k (omega (arith, h, length-map_slots slots, i.whole)));
  }

  pub index_without : ((k : ℕ) → k < 256 → has words' k ≡ (not (eqb k b) && has words k))
      → IsByteIndex words' (set slots b 255)
  index_without e = record {
    whole = length-set slots b 255 ∙ i.whole;
    agrees = λ k m. e k m ∙ ap (λ t. not (eqb k b) && t) (i.agrees k m)
        ∙ sym (ap (λ os. is_used os k) slots_without ∙ used_without (map slot_of slots) b k);
  }

pub first_agrees : (f g : ℕ → Bool) (n : ℕ) → ((k : ℕ) → k < n → f k ≡ g k) → (r : Option ℕ) → IsFirst f n r
    → IsFirst g n r
first_agrees f g n e None h = λ k l. sym (e k l) ∙ h k l
first_agrees f g n e (Some p) h = (h.0, sym (e p h.0) ∙ h.1, λ k l. sym (e k (omega (arith, l, h.0))) ∙ h.2 k l)

module _ {words slots : List ℕ} (i : IsByteIndex words slots) (b : ℕ) (h : b < 256) where
  read : get_or (map slot_of slots) b None ≡ slot_of (get_or slots b 0)
  read = get_or-map slot_of slots b 255 ∙ ap slot_of (get_or_default_zero slots b 255 (omega (arith, h, i.whole)))

  pub read_none : get_or slots b 0 ≡ 255 → None ≡ get_or (map slot_of slots) b None
  read_none e = sym (read ∙ ap slot_of e)

  pub read_slot : get_or slots b 0 ≢ 255 → Some (get_or slots b 0) ≡ get_or (map slot_of slots) b None
  read_slot n = sym (read ∙ ap (λ t. cond t None (Some (get_or slots b 0))) (ne_eqb (get_or slots b 0) 255 n))

-- ---- the walk
pub members-bytes : (test : ℕ → Bool) (from count : ℕ) → from + count ≤ 256 → AreBytes (members_from test from count)
members-bytes test from zero h = tt
members-bytes test from (suc count) h =
    let rest = members-bytes test (suc from) count (omega (arith, h)) in
    elim (test from) as (λ t. AreBytes (cond t (from ∷ members_from test (suc from) count)
    (members_from test (suc from) count))) [
      | true ↦ (omega (arith, h), rest)
      | false ↦ rest
    ]

-- from byte n on the row is xs
walked : (test : ℕ → Bool) (slots xs : List ℕ) (n : ℕ)
    → ((j : ℕ) → j < length xs → test (n + j) ≡ is_used (map slot_of xs) j)
    → ((j : ℕ) → j < length xs → get_or slots (n + j) 0 ≡ get_or xs j 0)
    → with_slots slots (members_from test n (length xs)) ≡ numbered_values n (map slot_of xs)
walked test slots [] n t e = refl
walked test slots (x ∷ xs) n t e =
    let here : n + 0 ≡ n = omega arith in
    let rest = walked test slots xs (suc n)
    (λ j h. (let next : suc n + j ≡ n + suc j = omega arith in ap test next) ∙ t (suc j) (omega (arith, h)))
    (λ j h. (let next : suc n + j ≡ n + suc j = omega arith in ap (λ m. get_or slots m 0) next)
    ∙ e (suc j) (omega (arith, h))) in
    let first : test n ≡ is_used (map slot_of (x ∷ xs)) 0 = sym (ap test here) ∙ t 0 (omega arith) in
    let at : get_or slots n 0 ≡ x = sym (ap (λ m. get_or slots m 0) here) ∙ e 0 (omega arith) in
    ap (λ c. with_slots slots (cond c (n ∷ members_from test (suc n) (length xs))
    (members_from test (suc n) (length xs)))) first
    ∙ elim (eqb x 255) as (λ c. with_slots slots
    (cond (is_used (cond c None (Some x) ∷ map slot_of xs) 0) (n ∷ members_from test (suc n) (length xs))
    (members_from test (suc n) (length xs))) ≡ numbered_values n (cond c None (Some x) ∷ map slot_of xs)) [
      | true ↦ rest
      | false ↦ (λ i. (n, at i) ∷ rest i)
    ]

pub walked_all : {words slots : List ℕ} → IsByteIndex words slots → with_slots slots (members_from (has words) 0 256)
    ≡ numbered_values 0 (map slot_of slots)
walked_all {words} {slots} i =
    let at : (j : ℕ) → 0 + j ≡ j = λ (j : ℕ). omega arith in
    ap (λ n. with_slots slots (members_from (has words) 0 n)) (sym i.whole)
    ∙ walked (has words) slots slots 0 (λ j h. ap (has words) (at j) ∙ i.agrees j (omega (arith, h, i.whole)))
    (λ j h. ap (λ m. get_or slots m 0) (at j))

-- those of the bytes above k
pub with_slots-above : (k : ℕ) (slots bs : List ℕ) → with_slots slots (positions_above k bs)
    ≡ entries_above k (with_slots slots bs)
with_slots-above k slots [] = refl
with_slots-above k slots (b ∷ bs) = elim (ltb k b)
    as (λ t. with_slots slots (cond t (b ∷ positions_above k bs) (positions_above k bs))
    ≡ cond t ((b, get_or slots b 0) ∷ entries_above k (with_slots slots bs)) (entries_above k (with_slots slots bs))) [
      | true ↦ ap (λ l. (b, get_or slots b 0) ∷ l) (with_slots-above k slots bs)
      | false ↦ with_slots-above k slots bs
    ]

pub above-bytes : (k : ℕ) (bs : List ℕ) → AreBytes bs → AreBytes (positions_above k bs)
above-bytes k [] h = tt
above-bytes k (b ∷ bs) h = elim (ltb k b)
    as (λ t. AreBytes (cond t (b ∷ positions_above k bs) (positions_above k bs))) [
      | true ↦ (h.0, above-bytes k bs h.1)
      | false ↦ above-bytes k bs h.1
    ]
