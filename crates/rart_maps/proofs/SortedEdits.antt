-- The keys and the children of a sorted map's block through its edits.
use Rattle.std.proofs.Common.{◌≡◌, ℕ, ◌<◌, ◌≤◌, ◌+◌, ◌-◌, List, [], ◌∷◌, ◌++◌, None, length, get_or, set, sym, ap}
use Rattle.std.proofs.Common.{◌∙◌, refl, arith, subst}
use Rattle.std.specs.List.{insert, remove, zip}
use Rattle.std.proofs.lemmas.List.{length-append, length-set, get_or-set_other}
use Rattle.std.proofs.lemmas.List.Edits.{insert_end, length-insert, length-remove}
use Rattle.rart_block.specs.Contents.{Contents}
use Rattle.rart_parts.specs.Entries.{child_at, with_entry, without_byte}
use Rattle.rart_parts.specs.Keys.{IsFirstAbove}
use Rattle.rart_maps.specs.SortedKeyed.{IsSortedKeyed}
use Rattle.rart_maps.proofs.SortedLemmas.{fits, added, deleted, put_in, padded_more, padded_less}
use Rattle.rart_maps.proofs.Zipped.{removed}

-- what is true of a block is true of the same block
pub kept_by : {E X : Type 0} {width : ℕ} {b d : Contents E (List ℕ)
    X} → b ≡ d → IsSortedKeyed width d.keys d.items width
    → IsSortedKeyed width b.keys b.items width
kept_by {E} {X} {width} e s = subst (λ (c : Contents E (List ℕ) X). IsSortedKeyed width c.keys c.items width) (sym e) s

pub same_zip : {E X : Type 0} {b d : Contents E (List ℕ) X} → b ≡ d → zip b.keys b.items ≡ zip d.keys d.items
same_zip {E} {X} e = ap (λ (c : Contents E (List ℕ) X). zip c.keys c.items) e

module _ {X : Type 0} {width : ℕ} {ks : List ℕ} {vs : List X} (s : IsSortedKeyed width ks vs width) (n key : ℕ) (x : X)
    (count : n ≡ length vs) (free : length vs < width) (absent : child_at key (zip ks vs) ≡ None) where
  -- a child at the last place
  module _ (place : IsFirstAbove ks n key n) where
    pub last_zip : zip (set ks n key) (vs ++ x ∷ []) ≡ with_entry key x (zip ks vs)
    last_zip = ap (zip (set ks n key)) (sym (insert_end vs x) ∙ ap (λ i. insert vs i x) (sym count))
        ∙ put_in s ks n n key x count free refl place absent (λ k d l m. absurd (omega arith)) (λ k d l. refl)

    pub last_kept : IsSortedKeyed width (set ks n key) (vs ++ x ∷ []) width
    last_kept = added s key x (set ks n key) (vs ++ x ∷ []) width (length-set ks n key) (length-append vs (x ∷ [])) free
        (omega arith) last_zip (padded_more s ks n n key count (omega arith) (λ k d l. refl))

  -- a child at another place, with the keys after it moved up
  module _ (at : ℕ) (ks₁ : List ℕ) (place : IsFirstAbove ks n key at) (same_length : length ks₁ ≡ length ks)
      (moved : (k d : ℕ) → at + 1 ≤ k → k < at + 1 + (n - at) → get_or ks₁ k d ≡ get_or ks (at + (k - (at + 1))) d)
      (before : (k d : ℕ) → k < at + 1 → get_or ks₁ k d ≡ get_or ks k d)
      (after : (k d : ℕ) → at + 1 + (n - at) ≤ k → get_or ks₁ k d ≡ get_or ks k d) where
    pub put_zip : zip (set ks₁ at key) (insert vs at x) ≡ with_entry key x (zip ks vs)
    put_zip = put_in s ks₁ n at key x count free same_length place absent moved before

    pub put_kept : IsSortedKeyed width (set ks₁ at key) (insert vs at x) width
    put_kept = added s key x (set ks₁ at key) (insert vs at x) width (length-set ks₁ at key ∙ same_length)
        (length-insert vs at x (omega (arith, place.0, count))) free (omega arith) put_zip
        (padded_more s ks₁ n at key count place.0 after)

pub one_removed : {X : Type 0} (vs : List X) → length vs ≡ 1 → length (remove vs 0) ≡ 0
one_removed [] e = absurd (omega arith)
one_removed (v ∷ vs) e = omega (arith, e)

-- without the child at a place, with the keys after it moved down and the last one overwritten
module _ {X : Type 0} {width : ℕ} {ks : List ℕ} {vs : List X} (s : IsSortedKeyed width ks vs width) (n key at : ℕ)
    (count : n ≡ length vs) (within : at < n) (here : get_or ks at 0 ≡ key)
    (first : (j : ℕ) → j < at → get_or ks j 0 ≡ key → ⊥) (ks₁ : List ℕ) (same_length : length ks₁ ≡ length ks)
    (moved : (k d : ℕ) → at ≤ k → k < at + (n - (at + 1)) → get_or ks₁ k d ≡ get_or ks (at + 1 + (k - at)) d)
    (before : (k d : ℕ) → k < at → get_or ks₁ k d ≡ get_or ks k d)
    (after : (k d : ℕ) → at + (n - (at + 1)) ≤ k → get_or ks₁ k d ≡ get_or ks k d) where
  pub removed_zip : zip (set ks₁ (n - 1) 255) (remove vs at) ≡ without_byte key (zip ks vs)
  removed_zip = removed key ks (set ks₁ (n - 1) 255) vs at (fits s) (length-set ks₁ (n - 1) 255 ∙ same_length)
      (omega (arith, within, count)) here first
      (λ j l. get_or-set_other ks₁ (n - 1) j 255 0 (λ q. omega (arith, q, l, within)) ∙ before j 0 l)
      (λ j l m. get_or-set_other ks₁ (n - 1) j 255 0 (λ q. omega (arith, q, m, count))
      ∙ moved j 0 l (omega (arith, l, m, count))
      ∙ (let next : at + 1 + (j - at) ≡ j + 1 = omega arith in ap (λ i. get_or ks i 0) next))

  pub removed_kept : IsSortedKeyed width (set ks₁ (n - 1) 255) (remove vs at) width
  removed_kept =
      let fewer : length vs ≡ length (remove vs at) + 1 = sym (length-remove vs at (omega (arith, within, count))) in
      deleted s key (set ks₁ (n - 1) 255) (remove vs at) width (length-set ks₁ (n - 1) 255 ∙ same_length) fewer refl
      removed_zip (padded_less s ks₁ n at (length (remove vs at)) count within same_length after fewer)
