-- Items that are tested to ascend, as the bulk loads require.
use Rattle.std.proofs.Common.{◌≡◌, ℕ, drop, take, ◌+◌, ◌<◌, zero, suc, List, [], ◌∷◌, ◌++◌, length, get_or, map}
use Rattle.std.proofs.Common.{reverse, refl, sym, ap, ◌∙◌, arith}
use Rattle.std.specs.Iterator.{HoldsAlong, YieldsFirst}
use Rattle.std.specs.Vec.Iter.{into_iter_items, into_iter_len, into_iter_steps}
use Rattle.std.proofs.iter.Yields.{gives_along}
use Rattle.std.proofs.lemmas.Iterator.Adapters.{YieldsList-from_vec}
use Rattle.std.proofs.lemmas.Iterator.Consumers.{YieldsList-from_first}
use Rattle.std.proofs.lemmas.List.{map-append, map-id, take-append-drop}
use Rattle.std.specs.List.Sorted.{IsPermutation}
use Rattle.std.proofs.lemmas.Grind.{reverse_onto}
use Rattle.std.proofs.lemmas.List.Sorted.{IsPermutation-append_comm, IsPermutation-reverse}
use Rattle.rart_keys.specs.ByteStrings.{IsLess}
use Rattle.rart_keys.specs.SortedMap.{IsAscending, keys_of}
use Rattle.rart.specs.BulkLoads.{CanTake}
use Rattle.rart.specs.Steps.{pairs_in}

module _ {K V : Type 0} (bytes : K → List ℕ) where
  key-at : (items : List (K × V)) (i : ℕ) (d : K × V) → i < length items → get_or (keys_of (pairs_in bytes items)) i []
      ≡ bytes (get_or items i d).0
  key-at [] i d l = absurd (omega (arith, l))
  key-at (x ∷ items) zero d l = refl
  key-at (x ∷ items) (suc i) d l = key-at items i d (omega (arith, l))

  length-pairs : (items : List (K × V)) → length (pairs_in bytes items) ≡ length items
  length-pairs [] = refl
  length-pairs (x ∷ items) = ap suc (length-pairs items)

  below-two : ((es : List (List ℕ × V)) (i j : ℕ) → IsAscending es → i < j → j < length es
      → IsLess (get_or (keys_of es) i []) (get_or (keys_of es) j [])) → (items : List (K × V)) (i j : ℕ) (c d : K × V)
      → IsAscending (pairs_in bytes items) → i < j → j < length items
      → IsLess (bytes (get_or items i c).0) (bytes (get_or items j d).0)
  below-two law items i j c d up a l =
      rw (← key-at items i c (omega (arith, a, l)), ← key-at items j d l)
      (law (pairs_in bytes items) i j up a (omega (arith, l, length-pairs items)))

  pub vec-ascends : {Z : Type 0} → ((es more : List (List ℕ × V)) → IsAscending (es ++ more) → IsAscending es)
      → (s : _) (items : List (K × V)) → into_iter_items {X = K × V} {Z = Z} s ≡ items → into_iter_len s ≡ length items
      → IsAscending (pairs_in bytes items)
      → HoldsAlong into_iter_steps s (λ xs. IsAscending (pairs_in bytes xs))
  vec-ascends begins s items e l up =
      gives_along into_iter_steps (λ y. y) (λ xs. IsAscending (pairs_in bytes xs)) items s
      (YieldsList-from_vec items e l).runs
      (λ seen more q. let parts : pairs_in bytes items ≡ pairs_in bytes seen ++ pairs_in bytes more
      = ap (pairs_in bytes) (q ∙ ap (λ z. z ++ more) (map-id seen))
      ∙ map-append (λ p. (bytes p.0, p.1)) seen more in
      begins (pairs_in bytes seen) (pairs_in bytes more) (rw parts at up))

  pub slice-ascends : {S : Type 0} (rest : S → List (K × V))
      → ((es more : List (List ℕ × V)) → IsAscending (es ++ more) → IsAscending es) → (s : S)
      → IsAscending (pairs_in bytes (rest s)) → HoldsAlong (YieldsFirst rest) s (λ xs. IsAscending (pairs_in bytes xs))
  slice-ascends rest begins s up =
      gives_along (YieldsFirst rest) (λ y. y) (λ xs. IsAscending (pairs_in bytes xs)) (rest s) s
      (YieldsList-from_first (λ x. x) rest (rest s) refl).runs
      (λ seen more q. let parts : pairs_in bytes (rest s) ≡ pairs_in bytes seen ++ pairs_in bytes more
      = ap (pairs_in bytes) (q ∙ ap (λ z. z ++ more) (map-id seen))
      ∙ map-append (λ p. (bytes p.0, p.1)) seen more in
      begins (pairs_in bytes seen) (pairs_in bytes more) (rw parts at up))

  pub below-each : ((es : List (List ℕ × V)) (i j : ℕ) → IsAscending es → i < j → j < length es
      → IsLess (get_or (keys_of es) i []) (get_or (keys_of es) j [])) → (items : List (K × V)) (i j : ℕ) (k l : K)
      → ((d : K × V) → k ≡ (get_or items i d).0) → ((d : K × V) → l ≡ (get_or items j d).0)
      → IsAscending (pairs_in bytes items) → i < j → j < length items → IsLess (bytes k) (bytes l)
  below-each law [] i j k l p q up a b = absurd (omega (arith, b))
  below-each law (x ∷ items) i j k l p q up a b = rw (p x, q x) (below-two law (x ∷ items) i j x x up a b)

  pairs-reverse : (xs : List (K × V)) → pairs_in bytes (reverse xs) ≡ reverse (pairs_in bytes xs)
  pairs-reverse [] = refl
  pairs-reverse (x ∷ xs) = ap (pairs_in bytes) (reverse_onto xs x [])
      ∙ map-append (λ p. (bytes p.0, p.1)) (reverse xs) (x ∷ [])
      ∙ ap (λ z. z ++ (bytes x.0, x.1) ∷ []) (pairs-reverse xs)
      ∙ sym (reverse_onto (pairs_in bytes xs) (bytes x.0, x.1) [])

  pub backward : (xs ys : List (K × V)) → ys ≡ reverse xs → IsPermutation (pairs_in bytes xs) (pairs_in bytes ys)
  backward xs ys e = rw (e, pairs-reverse xs) (IsPermutation-reverse (pairs_in bytes xs))

  pub exchanged : (xs ys : List (K × V)) (n : ℕ) → ys ≡ drop n xs ++ take n xs
      → IsPermutation (pairs_in bytes xs) (pairs_in bytes ys)
  exchanged xs ys n e =
      let p : K × V → List ℕ × V = λ x. (bytes x.0, x.1) in
      let halves : pairs_in bytes xs ≡ pairs_in bytes (take n xs) ++ pairs_in bytes (drop n xs)
      = ap (pairs_in bytes) (sym (take-append-drop n xs)) ∙ map-append p (take n xs) (drop n xs) in
      let turned : pairs_in bytes ys ≡ pairs_in bytes (drop n xs) ++ pairs_in bytes (take n xs) = ap (pairs_in bytes) e
      ∙ map-append p (drop n xs) (take n xs) in
      rw (halves, turned) (IsPermutation-append_comm (pairs_in bytes (take n xs)) (pairs_in bytes (drop n xs)))

pub can-always : {F V : Type 0} (pre : F → ℕ → Type 0) (step : F → ℕ → V → F → Type 0) → ((f : F) (i : ℕ) → pre f i)
    → (i n : ℕ) (f : F) → CanTake pre step i n f
can-always pre step always i zero f = tt
can-always pre step always i (suc n) f = (always f i, λ v g s. can-always pre step always (suc i) n g)
