-- A table at a route: the routes before it, the route, and those after it.
use Rattle.std.proofs.Common.{◌≡◌, ℕ, Bool, List, [], ◌∷◌, ◌++◌, true, false, refl, ap}
use Rattle.std.proofs.Common.{Some}
use Rattle.rart_keys.specs.ByteStrings.{IsLess}
use Rattle.rart_keys.specs.Ranges.{pairs_from}
use Rattle.rart_keys.specs.SortedMap.{AreAbove, IsAscending, lookup, without}
use Rattle.rart_keys.proofs.strings.ByteOrder.{below-not_eq, bytes_eq-back, bytes_eq-itself}
use Rattle.rart_cidr.proofs.walks.FilterLemmas.{from_after, from_before, from_itself}

module _ {T : Type 0} where
  -- what is above all before a list is above each of it
  pub above-last : (k : List ℕ) (n : List ℕ) (t : T) (kept todo : List (List ℕ × T))
      → AreAbove k (kept ++ (n, t) ∷ todo) → IsLess k n
  above-last k n t [] todo a = a.0
  above-last k n t (e ∷ kept) todo a = above-last k n t kept todo a.1

  -- the routes after a route are above it
  pub split-above : (n : List ℕ) (t : T) (kept todo : List (List ℕ × T)) → IsAscending (kept ++ (n, t) ∷ todo)
      → AreAbove n todo
  split-above n t [] todo a = a.0
  split-above n t (e ∷ kept) todo a = split-above n t kept todo a.1

  front-above : (k : List ℕ) (n : List ℕ) (t : T) (kept todo : List (List ℕ × T)) → AreAbove k (kept ++ (n, t) ∷ todo)
      → AreAbove k (kept ++ (n, t) ∷ [])
  front-above k n t [] todo a = (a.0, tt)
  front-above k n t (e ∷ kept) todo a = (a.0, front-above k n t kept todo a.1)

  -- the routes up to it
  pub split-front : (n : List ℕ) (t : T) (kept todo : List (List ℕ × T)) → IsAscending (kept ++ (n, t) ∷ todo)
      → IsAscending (kept ++ (n, t) ∷ [])
  split-front n t [] todo a = (tt, tt)
  split-front n t (e ∷ kept) todo a = (front-above e.0 n t kept todo a.0, split-front n t kept todo a.1)

  pub from-all : (h : Bool) (n : List ℕ) (es : List (List ℕ × T)) → AreAbove n es → pairs_from h n es ≡ es
  from-all h n [] a = refl
  from-all h n (e ∷ es) a = rw (from_after h n e.0 a.0) (ap (λ z. e ∷ z) (from-all h n es a.1))

  -- the routes after it
  pub split-after : (n : List ℕ) (t : T) (kept todo : List (List ℕ × T)) → IsAscending (kept ++ (n, t) ∷ todo)
      → pairs_from false n (kept ++ (n, t) ∷ todo) ≡ todo
  split-after n t [] todo a = rw (from_itself false n) (from-all false n todo a.0)
  split-after n t (e ∷ kept) todo a = rw (from_before false n e.0 (above-last e.0 n t kept todo a.0))
      (split-after n t kept todo a.1)

  -- it and the routes after it
  pub split-from : (n : List ℕ) (t : T) (kept todo : List (List ℕ × T)) → IsAscending (kept ++ (n, t) ∷ todo)
      → pairs_from true n (kept ++ (n, t) ∷ todo) ≡ (n, t) ∷ todo
  split-from n t [] todo a = rw (from_itself true n) (ap (λ z. (n, t) ∷ z) (from-all true n todo a.0))
  split-from n t (e ∷ kept) todo a = rw (from_before true n e.0 (above-last e.0 n t kept todo a.0))
      (split-from n t kept todo a.1)

  all-without : (n : List ℕ) (es : List (List ℕ × T)) → AreAbove n es → without n es ≡ es
  all-without n [] a = refl
  all-without n (e ∷ es) a = rw (bytes_eq-back e.0 n, below-not_eq n e.0 a.0)
      (ap (λ z. e ∷ z) (all-without n es a.1))

  -- the table without it
  pub split-without : (n : List ℕ) (t : T) (kept todo : List (List ℕ × T)) → IsAscending (kept ++ (n, t) ∷ todo)
      → without n (kept ++ (n, t) ∷ todo) ≡ kept ++ todo
  split-without n t [] todo a = rw (bytes_eq-itself n) (all-without n todo a.0)
  split-without n t (e ∷ kept) todo a = rw (below-not_eq e.0 n (above-last e.0 n t kept todo a.0))
      (ap (λ z. e ∷ z) (split-without n t kept todo a.1))

  -- its target
  pub split-lookup : (n : List ℕ) (t : T) (kept todo : List (List ℕ × T)) → IsAscending (kept ++ (n, t) ∷ todo)
      → lookup n (kept ++ (n, t) ∷ todo) ≡ Some t
  split-lookup n t [] todo a = rw (bytes_eq-itself n) refl
  split-lookup n t (e ∷ kept) todo a = rw (below-not_eq e.0 n (above-last e.0 n t kept todo a.0))
      (split-lookup n t kept todo a.1)
