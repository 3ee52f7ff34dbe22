-- Keys of at most four children beside the children themselves.
use Rattle.std.proofs.Common.{◌≡◌, ℕ, zero, suc, ◌<◌, ◌≤◌, List, [], ◌∷◌, length, get_or, take, sym, ap, ◌∙◌}
use Rattle.std.proofs.Common.{refl, arith, subst, set, Option, Some, None}
use Rattle.std.specs.List.{zip}
use Rattle.std.proofs.lemmas.List.{length-take, length-set}
use Rattle.rart_parts.specs.Entries.{StartsAbove, BytesAscend, child_at, replaced_at}
use Rattle.std.specs.Prelude.{MatchOption}
use Rattle.rart_parts.specs.Keys.{IsAscendingBelow, IsPlaceOf}
use Rattle.rart_maps.specs.FourKeys.{IsFourKeys, keyed}
use Rattle.rart_maps.specs.SortedKeyed.{IsPadded, IsSortedKeyed}
use Rattle.rart_maps.proofs.SortedLemmas.{ordered}
use Rattle.rart_maps.proofs.SortedSearch.{found, left_at, not_found}

starts-zip : {X : Type 0} (b : ℕ) (ks : List ℕ) (vs : List X) → (0 < length vs → b < get_or ks 0 0)
    → length vs ≤ length ks → StartsAbove b (zip ks vs)
starts-zip b [] [] h e = tt
starts-zip b [] (v ∷ vs) h e = absurd (omega (arith, e))
starts-zip b (k ∷ ks) [] h e = tt
starts-zip b (k ∷ ks) (v ∷ vs) h e = h (omega arith)

-- entries of keys that ascend ascend
ascends-zip : {X : Type 0} (ks : List ℕ) (vs : List X) → length vs ≤ length ks → IsAscendingBelow ks (length vs)
    → BytesAscend (zip ks vs)
ascends-zip [] [] e a = tt
ascends-zip [] (v ∷ vs) e a = absurd (omega (arith, e))
ascends-zip (k ∷ ks) [] e a = tt
ascends-zip (k ∷ ks) (v ∷ vs) e a = (
  starts-zip k ks vs (λ l. a 0 1 (omega arith) (omega (arith, l))) (omega (arith, e)),
  ascends-zip ks vs (omega (arith, e)) (λ i j l m. a (suc i) (suc j) (omega (arith, l)) (omega (arith, m))),
)

zip-take : {X : Type 0} (n : ℕ) (ks : List ℕ) (vs : List X) → n ≡ length vs → zip (take n ks) vs ≡ zip ks vs
zip-take zero ks [] e = zip-nothing (take 0 ks) ∙ sym (zip-nothing ks)
  where
    zip-nothing : {X : Type 0} (ks : List ℕ) → (let none : List X = [] in ◌≡◌ {A = List (ℕ × X)} (zip ks none) [])
    zip-nothing [] = refl
    zip-nothing (k ∷ ks) = refl
zip-take zero ks (v ∷ vs) e = absurd (omega (arith, e))
zip-take (suc n) ks [] e = absurd (omega (arith, e))
zip-take (suc n) [] (v ∷ vs) e = refl
zip-take (suc n) (k ∷ ks) (v ∷ vs) e = ap (λ es. (k, v) ∷ es) (zip-take n ks vs (omega (arith, e)))

keyed-zip : {X : Type 0} (ks : List ℕ) (vs : List X) → length vs ≤ length ks → keyed ks vs ≡ zip ks vs
keyed-zip [] [] e = refl
keyed-zip [] (v ∷ vs) e = absurd (omega (arith, e))
keyed-zip (k ∷ ks) [] e = refl
keyed-zip (k ∷ ks) (v ∷ vs) e = ap (λ es. (k, v) ∷ es) (keyed-zip ks vs (omega (arith, e)))

length-keyed : {X : Type 0} (ks : List ℕ) (vs : List X) → length (keyed ks vs) ≡ length vs
length-keyed ks [] = refl
length-keyed [] (v ∷ vs) = ap suc (length-keyed [] vs)
length-keyed (k ∷ ks) (v ∷ vs) = ap suc (length-keyed ks vs)

-- the keys in use of a sorted map of four
pub keyed-sorted : {X : Type 0} {ks : List ℕ} {vs : List X} → IsSortedKeyed 4 ks vs 4 → (n : ℕ) → n ≡ length vs
    → keyed (take n ks) vs ≡ zip ks vs
keyed-sorted {ks = ks} {vs = vs} s n e = keyed-zip (take n ks) vs (omega (arith, length-take n ks, e, s.full, s.few))
    ∙ zip-take n ks vs e

-- the keys in use are l, one for each child
module _ {X : Type 0} {ks l : List ℕ} {n : ℕ} (vs : List X) (s : IsFourKeys ks n) (view : take n ks ≡ l)
    (each : length l ≡ length vs) where
  pub keys_count : n ≡ length vs
  keys_count = omega (arith, length-take n ks, ap length view, s.full, s.few, each)

  pub keys_sorted : IsSortedKeyed 4 ks vs 4
  keys_sorted = record {
    full = s.full;
    few = omega (arith, keys_count, s.few);
    reserved = omega arith;
    narrow = omega arith;
    ascends = ascends-zip ks vs (omega (arith, keys_count, s.few, s.full))
        (subst (IsAscendingBelow ks) keys_count s.ascends);
    padded = subst (λ m. IsPadded ks m 4) keys_count s.padded;
  }

  pub keys_entries : zip ks vs ≡ keyed l vs
  keys_entries = sym (keyed-sorted keys_sorted n keys_count) ∙ ap (λ k. keyed k vs) view

  pub keys_length : length (keyed l vs) ≡ length vs
  keys_length = length-keyed l vs

  -- where a search ends
  module _ (key : ℕ) where
    written : (p : ℕ) (w : X) → IsPlaceOf ks n key (Some p) → keyed l (set vs p w) ≡ replaced_at key w (keyed l vs)
    written p w f = keyed-zip l (set vs p w) (omega (arith, each, length-set vs p w))
        ∙ ap (λ k. zip k (set vs p w)) (sym view) ∙ zip-take n ks (set vs p w) (keys_count ∙ sym (length-set vs p w))
        ∙ left_at refl keys_sorted n keys_count key p w f ∙ ap (replaced_at key w) keys_entries

    pub place_found : (o : Option ℕ) → IsPlaceOf ks n key o → MatchOption o (child_at key (keyed l vs) ≡ None)
        (λ p. (p < length vs) × ((x : X) → x ≡ get_or vs p x → child_at key (keyed l vs) ≡ Some x)
        × ((w : X) → keyed l (set vs p w) ≡ replaced_at key w (keyed l vs)))
    place_found None f = sym (ap (child_at key) keys_entries) ∙ sym (not_found refl keys_sorted n keys_count key f)
    place_found (Some p) f = (
      omega (arith, f.0, keys_count),
      λ x is. sym (ap (child_at key) keys_entries) ∙ sym (found refl keys_sorted n keys_count key p x f is),
      λ w. written p w f,
    )

-- the keys of a sorted map of four
pub of_sorted : {X : Type 0} {ks : List ℕ} {vs : List X} → IsSortedKeyed 4 ks vs 4 → (n : ℕ) → n ≡ length vs
    → IsFourKeys ks n
of_sorted {ks = ks} s n e = record {
  full = s.full;
  few = omega (arith, e, s.few);
  ascends = ordered s n e;
  padded = subst (λ m. IsPadded ks m 4) (sym e) s.padded;
}
