-- The pairs of a sorted map whose keys pass a test.
use Rattle.std.proofs.Common.{◌≡◌, ℕ, ◌⊎◌, ⊎_elim, inl, inr, arith, Bool, List, [], ◌∷◌, true, false}
use Rattle.std.proofs.Common.{refl}
use Rattle.std.proofs.Common.{sym, ap, ◌∙◌, Option, Some, None, if◌then◌else◌, ◌<◌}
use Rattle.std.specs.Prelude.{filter}
use Rattle.rart_keys.specs.ByteStrings.{IsLess, begins, bytes_eq}
use Rattle.rart_keys.specs.Filters.{below}
use Rattle.rart_keys.specs.Ranges.{is_from_bound, pairs_from}
use Rattle.rart_keys.specs.SortedMap.{AreAbove, IsAscending, lookup}
use Rattle.rart_keys.proofs.strings.ByteOrder.{below-greater, bytes_eq-differ, bytes_eq-itself}
use Rattle.rart_keys.proofs.strings.ByteOrder.{cmp-itself}
use Rattle.rart_keys.proofs.strings.ByteOrder.{compare, eq-no, eq-yes, equal_or_not, is_equal, is_greater, order}
use Rattle.rart_keys.proofs.maps.SortedMaps.{equal_by_lookups}
use Rattle.rart_cidr.specs.Walks.{AreWithin, up_to_outside}
use Rattle.rart_cidr.proofs.routes.RouteLemmas.{same_or_not}
use Rattle.rart_cidr.proofs.networks.PlaceLemmas.{not-less_nil}

-- a start as an order
pub from_after : (h : Bool) (q k : List ℕ) → IsLess q k → is_from_bound h q k ≡ true
from_after h q k l = rw (below-greater q k l) refl

pub from_before : (h : Bool) (q k : List ℕ) → IsLess k q → is_from_bound h q k ≡ false
from_before h q k l = rw l refl

pub from_itself : (h : Bool) (q : List ℕ) → is_from_bound h q q ≡ h
from_itself h q = rw (cmp-itself q) refl

-- after the start, or at an inclusive one
pub from_is : (h : Bool) (q k : List ℕ) → is_from_bound h q k ≡ true → (IsLess q k) ⊎ ((q ≡ k) × (h ≡ true))
from_is h q k e = ⊎_elim
    (λ l. inl l)
    (⊎_elim
    (λ m. inr (m, sym (from_itself h q) ∙ ap (is_from_bound h q) m ∙ e))
    (λ l. absurd (let t = from_before h q k l in cc)))
    (compare q k)

-- what comes after something outside the network q, which comes after q, is outside too
outside-after : (q k l : List ℕ) → IsLess q k → begins q k ≡ false → IsLess k l → begins q l ≡ false
outside-after [] k l a b c = absurd (cc)
outside-after (x ∷ q) [] l a b c = absurd (not-less_nil (x ∷ q) a)
outside-after (x ∷ q) (y ∷ k) [] a b c = refl
outside-after (x ∷ q) (y ∷ k) (z ∷ l) a b c = ⊎_elim
    (λ e. ⊎_elim
    (λ f. let m : x ≡ y = e ∙ sym f in rw (eq-yes x z e) (outside-after q k l (rw (is_equal x y m) at a)
    (rw (eq-yes x y m) at b) (rw (is_equal y z f) at c)))
    (λ f. absurd (⊎_elim
    (λ s. let xy : y < x = omega (arith, s, e) in let t = rw (is_greater x y xy) at a in cc)
    (⊎_elim (λ s. f s) (λ s. let t = rw (is_greater y z s) at c in cc))
    (order y z)))
    (equal_or_not y z))
    (λ n. rw (eq-no x z n) refl)
    (equal_or_not x z)

pub not-inside-before : (q k : List ℕ) → IsLess k q → begins q k ≡ false
not-inside-before [] k l = absurd (not-less_nil k l)
not-inside-before (x ∷ q) [] l = refl
not-inside-before (x ∷ q) (y ∷ k) l = ⊎_elim
    (λ e. rw (eq-yes x y e) (not-inside-before q k (rw (is_equal y x (sym e)) at l)))
    (λ n. rw (eq-no x y n) refl)
    (equal_or_not x y)

begins-itself : (q : List ℕ) → begins q q ≡ true
begins-itself [] = refl
begins-itself (x ∷ q) = rw (eq-yes x x refl) (begins-itself q)

module _ {T : Type 0} where
  above-filter : (f : List ℕ → Bool) (k : List ℕ) (es : List (List ℕ × T)) → AreAbove k es
      → AreAbove k (filter (λ e. f e.0) es)
  above-filter f k [] a = tt
  above-filter f k (e ∷ es) a = elim (f e.0)
      as (λ b. AreAbove k (if b then e ∷ filter (λ z. f z.0) es else filter (λ z. f z.0) es)) [
        | true ↦ (a.0, above-filter f k es a.1)
        | false ↦ above-filter f k es a.1
      ]

  pub ascending_filter : (f : List ℕ → Bool) (es : List (List ℕ × T)) → IsAscending es
      → IsAscending (filter (λ e. f e.0) es)
  ascending_filter f [] a = tt
  ascending_filter f (e ∷ es) a = elim (f e.0)
      as (λ b. IsAscending (if b then e ∷ filter (λ z. f z.0) es else filter (λ z. f z.0) es)) [
        | true ↦ (above-filter f e.0 es a.0, ascending_filter f es a.1)
        | false ↦ ascending_filter f es a.1
      ]

  none-or-none : (b : Bool) → ◌≡◌ {A = Option T} None (if b then None else None)
  none-or-none true = refl
  none-or-none false = refl

  -- the value at the first key, if it passes
  pub lookup_filter : (f : List ℕ → Bool) (k : List ℕ) (es : List (List ℕ × T))
      → lookup k (filter (λ e. f e.0) es) ≡ (if f k then lookup k es else None)
  lookup_filter f k [] = none-or-none (f k)
  lookup_filter f k (e ∷ es) = ⊎_elim
      (λ m. elim (f e.0) as (λ b. f e.0 ≡ b
      → lookup k (if b then e ∷ filter (λ z. f z.0) es else filter (λ z. f z.0) es)
      ≡ (if f k then lookup k (e ∷ es) else None)) [
        | true ↦ λ s. let t : f k ≡ true = ap f (sym m) ∙ s in
            let one : bytes_eq e.0 k ≡ true = ap (λ z. bytes_eq z k) m ∙ bytes_eq-itself k in rw (t, one) refl
        | false ↦ λ s. let t : f k ≡ false = ap f (sym m) ∙ s in
            lookup_filter f k es ∙ rw t refl
      ] refl)
      (λ n. let other = bytes_eq-differ e.0 k n in elim (f e.0) as (λ b.
      lookup k (if b then e ∷ filter (λ z. f z.0) es else filter (λ z. f z.0) es)
      ≡ (if f k then lookup k (e ∷ es) else None)) [
        | true ↦ rw other (lookup_filter f k es)
        | false ↦ rw other (lookup_filter f k es)
      ])
      (same_or_not e.0 k)

  -- tests that agree on what is stored
  same-tests : (f g : List ℕ → Bool) (v : List (List ℕ × T)) (p : List ℕ)
      → ((t : T) → lookup p v ≡ Some t → f p ≡ g p)
      → (if f p then lookup p v else None) ≡ (if g p then lookup p v else None)
  same-tests f g v p h = elim (lookup p v)
      as (λ z. lookup p v ≡ z → (if f p then z else None) ≡ (if g p then z else None)) [
        | None ↦ λ e. sym (none-or-none (f p)) ∙ none-or-none (g p)
        | Some t ↦ λ e. ap (λ b. if b then Some t else None) (h t e)
      ] refl

  pub equal_filters : (f g : List ℕ → Bool) (v : List (List ℕ × T)) → IsAscending v
      → ((p : List ℕ) (t : T) → lookup p v ≡ Some t → f p ≡ g p) → filter (λ e. f e.0) v ≡ filter (λ e. g e.0) v
  equal_filters f g v a h = equal_by_lookups (filter (λ e. f e.0) v) (filter (λ e. g e.0) v) (ascending_filter f v a)
      (ascending_filter g v a)
      (λ p. lookup_filter f p v ∙ same-tests f g v p (h p) ∙ sym (lookup_filter g p v))

  above-by-test : (g : List ℕ → Bool) (n : List ℕ) (v : List (List ℕ × T)) → ((p : List ℕ) → g p ≡ true → IsLess n p)
      → AreAbove n (filter (λ e. g e.0) v)
  above-by-test g n [] h = tt
  above-by-test g n (e ∷ es) h = elim (g e.0) as (λ b. g e.0 ≡ b
      → AreAbove n (if b then e ∷ filter (λ z. g z.0) es else filter (λ z. g z.0) es)) [
        | true ↦ λ s. (h e.0 s, above-by-test g n es h)
        | false ↦ λ s. above-by-test g n es h
      ] refl

  -- the first that passes is at n, and the others are those after n
  pub first_filtered : (f g : List ℕ → Bool) (n : List ℕ) (t : T) (v : List (List ℕ × T)) → IsAscending v
      → lookup n v ≡ Some t → f n ≡ true → ((p : List ℕ) → g p ≡ true → IsLess n p)
      → ((p : List ℕ) (u : T) → lookup p v ≡ Some u → (n ≡ p → ⊥) → f p ≡ g p)
      → filter (λ e. f e.0) v ≡ (n, t) ∷ filter (λ e. g e.0) v
  first_filtered f g n t v a found here above agree = equal_by_lookups (filter (λ e. f e.0) v)
      ((n, t) ∷ filter (λ e. g e.0) v) (ascending_filter f v a) (above-by-test g n v above, ascending_filter g v a)
      (λ p. lookup_filter f p v ∙ ⊎_elim
      (λ m. let one : bytes_eq n p ≡ true = ap (λ z. bytes_eq z p) m ∙ bytes_eq-itself p in
      let two : f p ≡ true = ap f (sym m) ∙ here in
      let three : lookup p v ≡ Some t = ap (λ z. lookup z v) (sym m) ∙ found in rw (one, two) three)
      (λ m. let one = bytes_eq-differ n p m in
      same-tests f g v p (λ u e. agree p u e m) ∙ sym (rw one (lookup_filter g p v)))
      (same_or_not n p))

  pub none_filtered : (f : List ℕ → Bool) (v : List (List ℕ × T)) → IsAscending v
      → ((p : List ℕ) (t : T) → lookup p v ≡ Some t → f p ≡ false) → filter (λ e. f e.0) v ≡ []
  none_filtered f v a h = equal_by_lookups (filter (λ e. f e.0) v) [] (ascending_filter f v a) tt
      (λ p. lookup_filter f p v ∙ same-tests f (λ z. false) v p (h p))

  -- networks of at most w bits
  pub within_filter : (f : List ℕ → Bool) (w : ℕ) (es : List (List ℕ × T)) → AreWithin w es
      → AreWithin w (filter (λ e. f e.0) es)
  within_filter f w [] a = tt
  within_filter f w (e ∷ es) a = elim (f e.0)
      as (λ b. AreWithin w (if b then e ∷ filter (λ z. f z.0) es else filter (λ z. f z.0) es)) [
        | true ↦ (a.0, within_filter f w es a.1)
        | false ↦ within_filter f w es a.1
      ]

  all-outside : (q k : List ℕ) (es : List (List ℕ × T)) → IsLess q k → begins q k ≡ false → AreAbove k es
      → below q es ≡ []
  all-outside q k [] l b a = refl
  all-outside q k (e ∷ es) l b a = rw (outside-after q k e.0 l b a.0) (all-outside q k es l b a.1)

  -- from q on, the pairs inside q are those up to the first one outside
  pub up_to_outside_is : (q : List ℕ) (v : List (List ℕ × T)) → IsAscending v
      → up_to_outside q (pairs_from true q v) ≡ below q v
  up_to_outside_is q [] a = refl
  up_to_outside_is q (e ∷ es) a = ⊎_elim
      (λ l. rw (from_after true q e.0 l) (elim (begins q e.0) as (λ b. begins q e.0 ≡ b
      → (if b then e ∷ up_to_outside q (pairs_from true q es) else []) ≡ (if b then e ∷ below q es else below q es)) [
        | true ↦ λ s. ap (λ z. e ∷ z) (up_to_outside_is q es a.1)
        | false ↦ λ s. sym (all-outside q e.0 es l s a.0)
      ] refl))
      (⊎_elim
      (λ m. let one : is_from_bound true q e.0 ≡ true = ap (is_from_bound true q) (sym m) ∙ from_itself true q in
      let two : begins q e.0 ≡ true = ap (begins q) (sym m) ∙ begins-itself q in
      rw (one, two) (ap (λ z. e ∷ z) (up_to_outside_is q es a.1)))
      (λ l. rw (from_before true q e.0 l, not-inside-before q e.0 l) (up_to_outside_is q es a.1)))
      (compare q e.0)

  pub below_nothing : (es : List (List ℕ × T)) → below [] es ≡ es
  below_nothing [] = refl
  below_nothing (e ∷ es) = ap (λ z. e ∷ z) (below_nothing es)

  -- from a stored network on: its route, and those after it
  pub from_stored : (q : List ℕ) (t : T) (v : List (List ℕ × T)) → IsAscending v → lookup q v ≡ Some t
      → pairs_from true q v ≡ (q, t) ∷ pairs_from false q v
  from_stored q t v a h = first_filtered (is_from_bound true q) (is_from_bound false q) q t v a h (from_itself true q)
      (λ p e. ⊎_elim (λ l. l) (λ m. absurd (let z = m.1 in cc)) (from_is false q p e))
      (λ p u e n. ⊎_elim
      (λ l. from_after true q p l ∙ sym (from_after false q p l))
      (⊎_elim (λ m. absurd (n m)) (λ l. from_before true q p l ∙ sym (from_before false q p l)))
      (compare q p))

  -- from another network on: those after it
  pub from_not_stored : (q : List ℕ) (v : List (List ℕ × T)) → IsAscending v → lookup q v ≡ None
      → pairs_from true q v ≡ pairs_from false q v
  from_not_stored q v a h = equal_filters (is_from_bound true q) (is_from_bound false q) v a
      (λ p t e. ⊎_elim
      (λ l. from_after true q p l ∙ sym (from_after false q p l))
      (⊎_elim
      (λ m. absurd (let n = sym h ∙ ap (λ z. lookup z v) m ∙ e in cc))
      (λ l. from_before true q p l ∙ sym (from_before false q p l)))
      (compare q p))

  -- no network comes before that of no bits
  pub from_nothing : (es : List (List ℕ × T)) → pairs_from true [] es ≡ es
  from_nothing [] = refl
  from_nothing (([], t) ∷ es) = ap (λ z. ([], t) ∷ z) (from_nothing es)
  from_nothing ((x ∷ k, t) ∷ es) = ap (λ z. (x ∷ k, t) ∷ z) (from_nothing es)
