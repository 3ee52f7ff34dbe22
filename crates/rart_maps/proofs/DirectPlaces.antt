-- The places of a direct map through its calls and walks.
use Rattle.std.proofs.Common.{◌≡◌, ℕ, zero, suc, ◌<◌, ◌≤◌, ◌+◌, ◌||◌, ◌&&◌, not, Bool, true, false, cond, eqb, List, []}
use Rattle.std.proofs.Common.{◌∷◌, Option, Some, None, length, get_or, set, replicate, sym, ap, ◌∙◌, refl, arith}
use Rattle.std.proofs.Common.{⊎_elim, subst}
use Rattle.std.proofs.lemmas.Bool.{lt-ltb, le-ltb, cases_lt, false≢true}
use Rattle.std.specs.Prelude.{IsSome}
use Rattle.std.proofs.lemmas.Bool.Decides.{eqb_tells}
use Rattle.rart_parts.specs.Bits.{members_from, positions_above, words_have}
use Rattle.rart_parts.specs.Entries.{entries_above}
use Rattle.rart_parts.specs.Places.{is_used, numbered_values, Agrees}
use Rattle.rart_parts.proofs.PlaceLemmas.{used_with, used_without, none_used}
use Rattle.rart_maps.specs.Direct.{with_place, in_places, AreFilled}

-- whether the words have a byte
abbrev pub has_byte : List ℕ → ℕ → Bool
has_byte ws = words_have 64 (λ w. w) ws

none_some : {X : Type 0} {x : X} → None ≡ Some x → ⊥
none_some h = cc

pub used_at : {X : Type 0} (os : List (Option X)) (k : ℕ) (x : X) → get_or os k None ≡ Some x → is_used os k ≡ true
used_at [] k x e = absurd (none_some e)
used_at (None ∷ os) zero x e = absurd (none_some e)
used_at (Some y ∷ os) zero x e = refl
used_at (o ∷ os) (suc k) x e = used_at os k x e

pub filled_some : {X : Type 0} (os : List (Option X)) (k : ℕ) → is_used os k ≡ true → IsSome (get_or os k None)
filled_some [] k e = absurd (false≢true e)
filled_some (None ∷ os) zero e = absurd (false≢true e)
filled_some (Some x ∷ os) zero e = refl
filled_some (o ∷ os) (suc k) e = filled_some os k e

pub vacant_none : {X : Type 0} (os : List (Option X)) (k : ℕ) → is_used os k ≡ false → get_or os k None ≡ None
vacant_none [] k e = refl
vacant_none (None ∷ os) zero e = refl
vacant_none (Some x ∷ os) zero e = absurd (false≢true (sym e))
vacant_none (o ∷ os) (suc k) e = vacant_none os k e

-- ---- the set of the bytes that have a child
module _ {X : Type 0} (ws : List ℕ) (os : List (Option X)) (a : Agrees 256 (has_byte ws) os) (k : ℕ)
    (h : k < length os) where
  pub agrees_put : (ws' : List ℕ) → ((j : ℕ) → j < 256 → has_byte ws' j ≡ (eqb j k || has_byte ws j)) → (x : X)
      → Agrees 256 (has_byte ws') (set os k (Some x))
  agrees_put ws' e x = λ j l. e j l ∙ ap (λ t. eqb j k || t) (a j l) ∙ sym (used_with os k x j h)

  pub agrees_taken : (ws' : List ℕ) → ((j : ℕ) → j < 256 → has_byte ws' j ≡ (not (eqb j k) && has_byte ws j))
      → Agrees 256 (has_byte ws') (set os k None)
  agrees_taken ws' e = λ j l. e j l ∙ ap (λ t. not (eqb j k) && t) (a j l) ∙ sym (used_without os k j)

  pub agrees_written : is_used os k ≡ true → (w : X) → Agrees 256 (has_byte ws) (set os k (Some w))
  agrees_written u w = λ j l. a j l ∙ sym (used_with os k w j h ∙ ⊎_elim
      (λ t. ap (λ b. b || is_used os j) t.0 ∙ sym (ap (is_used os) t.1 ∙ u))
      (λ t. ap (λ b. b || is_used os j) t.0)
      (eqb_tells j k))

pub agrees_start : (X : Type 0) (ws : List ℕ) → ((k : ℕ) → k < 256 → has_byte ws k ≡ false)
    → Agrees {X = X} 256 (has_byte ws) (replicate 256 None)
agrees_start X ws e = λ j l. e j l ∙ sym (none_used X 256 j)

-- ---- walks
module _ {X : Type 0} (test : ℕ → Bool) (whole : List (Option X)) where
  walk_from : (n : ℕ) (os : List (Option X)) → ((j : ℕ) → j < length os → test (n + j) ≡ is_used os j)
      → ((j : ℕ) → j < length os → get_or whole (n + j) None ≡ get_or os j None)
      → in_places (members_from test n (length os)) whole ≡ numbered_values n os
  walk_from n [] t e = refl
  walk_from n (None ∷ os) t e =
      let here : n ≡ n + 0 = omega arith in
      let none : test n ≡ false = ap test here ∙ t 0 (omega arith) in
      ap (λ c. in_places (cond c (n ∷ members_from test (suc n) (length os)) (members_from test (suc n) (length os)))
      whole)
      none ∙ walk_from (suc n) os
      (λ j l. (let next : suc n + j ≡ n + suc j = omega arith in ap test next) ∙ t (suc j) (omega (arith, l)))
      (λ j l. (let next : suc n + j ≡ n + suc j = omega arith in ap (λ m. get_or whole m None) next)
      ∙ e (suc j) (omega (arith, l)))
  walk_from n (Some x ∷ os) t e =
      let here : n ≡ n + 0 = omega arith in
      let one : test n ≡ true = ap test here ∙ t 0 (omega arith) in
      let read : get_or whole n None ≡ Some x = ap (λ m. get_or whole m None) here ∙ e 0 (omega arith) in
      ap (λ c. in_places (cond c (n ∷ members_from test (suc n) (length os)) (members_from test (suc n) (length os)))
      whole)
      one ∙ ap (λ o. with_place n o (in_places (members_from test (suc n) (length os)) whole)) read
      ∙ ap (λ l. (n, x) ∷ l) (walk_from (suc n) os
      (λ j l. (let next : suc n + j ≡ n + suc j = omega arith in ap test next) ∙ t (suc j) (omega (arith, l)))
      (λ j l. (let next : suc n + j ≡ n + suc j = omega arith in ap (λ m. get_or whole m None) next)
      ∙ e (suc j) (omega (arith, l))))

by_test : (b : Bool) (P : Type 0) → (b ≡ true → P) → (b ≡ false → P) → P
by_test true P f g = f refl
by_test false P f g = g refl

module _ {X : Type 0} (ws : List ℕ) (os : List (Option X)) (full : length os ≡ 256) (a : Agrees 256 (has_byte ws)
    os) where
  pub walk_all : in_places (members_from (has_byte ws) 0 256) os ≡ numbered_values 0 os
  walk_all =
      let at : (j : ℕ) → 0 + j ≡ j = λ (j : ℕ). omega arith in
      ap (λ n. in_places (members_from (has_byte ws) 0 n) os) (sym full)
      ∙ walk_from (has_byte ws) os 0 os (λ j l. ap (has_byte ws) (at j) ∙ a j (omega (arith, l, full)))
      (λ j l. ap (λ m. get_or os m None) (at j))

  members_filled : (from count : ℕ) → from + count ≤ 256 → AreFilled os (members_from (has_byte ws) from count)
  members_filled from zero h = tt
  members_filled from (suc count) h =
      let rest = members_filled (suc from) count (omega (arith, h)) in
      let more = members_from (has_byte ws) (suc from) count in
      by_test (has_byte ws from) _
      (λ e. subst (AreFilled os) (sym (ap (λ c. cond c (from ∷ more) more) e))
      (omega (arith, h), sym (a from (omega (arith, h))) ∙ e, rest))
      (λ e. subst (AreFilled os) (sym (ap (λ c. cond c (from ∷ more) more) e)) rest)

  pub all_filled : AreFilled os (members_from (has_byte ws) 0 256)
  all_filled = members_filled 0 256 (omega arith)

module _ {X : Type 0} (k : ℕ) (os : List (Option X)) where
  place_above : (p : ℕ) (o : Option X) (es : List (ℕ × X)) → k < p
      → with_place p o (entries_above k es) ≡ entries_above k (with_place p o es)
  place_above p None es l = refl
  place_above p (Some x) es l = sym (ap (λ c. cond c ((p, x) ∷ entries_above k es) (entries_above k es)) (lt-ltb k p l))

  place_passed : (p : ℕ) (o : Option X) (es : List (ℕ × X)) → p ≤ k
      → entries_above k es ≡ entries_above k (with_place p o es)
  place_passed p None es l = refl
  place_passed p (Some x) es l = sym (ap (λ c. cond c ((p, x) ∷ entries_above k es) (entries_above k es))
      (le-ltb k p l))

  pub places_above : (ps : List ℕ) → in_places (positions_above k ps) os ≡ entries_above k (in_places ps os)
  places_above [] = refl
  places_above (p ∷ ps) = ⊎_elim
      (λ l. ap (λ c. in_places (cond c (p ∷ positions_above k ps) (positions_above k ps)) os) (lt-ltb k p l)
      ∙ ap (with_place p (get_or os p None)) (places_above ps)
      ∙ place_above p (get_or os p None) (in_places ps os) l)
      (λ l. ap (λ c. in_places (cond c (p ∷ positions_above k ps) (positions_above k ps)) os) (le-ltb k p l)
      ∙ places_above ps ∙ place_passed p (get_or os p None) (in_places ps os) l)
      (cases_lt k p)

  pub above_filled : (ps : List ℕ) → AreFilled os ps → AreFilled os (positions_above k ps)
  above_filled [] f = tt
  above_filled (p ∷ ps) f = ⊎_elim
      (λ l. subst (AreFilled os)
      (sym (ap (λ c. cond c (p ∷ positions_above k ps) (positions_above k ps)) (lt-ltb k p l)))
      (f.0, f.1, above_filled ps f.2))
      (λ l. subst (AreFilled os)
      (sym (ap (λ c. cond c (p ∷ positions_above k ps) (positions_above k ps)) (le-ltb k p l)))
      (above_filled ps f.2))
      (cases_lt k p)
