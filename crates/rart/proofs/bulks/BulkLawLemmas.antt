-- What the law of bulk loads rests on: the items of a vector, and the pairs that were put in.
use Rattle.std.proofs.Common.{◌≡◌, ℕ, List, [], ◌∷◌, ◌++◌, length, length-append, refl, sym, ap, ◌∙◌, arith, Some, None}
use Rattle.std.specs.Iterator.{Drains, Yields}
use Rattle.std.specs.Vec.Iter.{into_iter_items, into_iter_len, into_iter_steps}
use Rattle.std.proofs.iter.Yields.{gives_Drains, gives_left}
use Rattle.std.proofs.lemmas.Iterator.Adapters.{YieldsList-from_vec}
use Rattle.std.proofs.lemmas.List.{append_assoc, map-append, map-id}
use Rattle.rart_keys.specs.BulkLists.{first_fault, last_wins, put_all}
use Rattle.rart_keys.specs.SortedMap.{IsAscending}
use Rattle.rart.specs.BulkLoads.{FailsSorted, MayRefuseLoad, MayRefuseOneOf}
use Rattle.rart.specs.Refusals.{MayRefuseInsert}
use Rattle.rart.specs.Steps.{pairs_in}
use Rattle.rart.specs.declared.bulk.BulkError.{BulkError}
use Rattle.rart.specs.declared.bulk.BulkError.TheVariants.{Memory, Full, Unsorted}

-- a vector's iterator gives its items, and nothing else
module _ {A Z : Type 0} (s : _) (all : List A) (items : into_iter_items {X = A} {Z = Z} s ≡ all)
    (len : into_iter_len s ≡ length all) where
  pub vec-drained : (xs : List A) → Drains into_iter_steps s xs → xs ≡ all
  vec-drained xs d = sym (map-id xs) ∙ gives_Drains into_iter_steps (λ y. y) xs all s
      (YieldsList-from_vec all items len).runs d

  pub vec-begun : (xs : List A) (t : _) → Yields into_iter_steps s xs t → (more : List A) × (all ≡ xs ++ more)
  vec-begun xs t y =
      let left = gives_left into_iter_steps (λ y. y) xs all s t (YieldsList-from_vec all items len).runs y in
      (left.0, left.1 ∙ ap (λ z. z ++ left.0) (map-id xs))

module _ {V : Type 0} where
  none-begun : (es more : List (List ℕ × V)) → es ++ more ≡ [] → es ≡ []
  none-begun [] more e = refl
  none-begun (x ∷ es) more e = absurd (omega (arith, ap length e))

  module _ (faultless : (es : List (List ℕ × V)) → IsAscending es → first_fault es ≡ None)
      (begins : (es more : List (List ℕ × V)) → IsAscending (es ++ more) → IsAscending es)
      (stays : (es : List (List ℕ × V)) → IsAscending es → last_wins es ≡ es) where
    refused-begun : (es more : List (List ℕ × V)) (e : BulkError) → IsAscending (es ++ more) → FailsSorted es e
        → MayRefuseLoad (es ++ more) e
    refused-begun es more Memory up s = λ z. s.0 (none-begun es more z)
    refused-begun es more Full up s =
        let same = ap length (stays es (begins es more up)) in omega (arith, s.1, length-append es more)
    refused-begun es more (Unsorted at) up s = let f : None ≡ Some s.0 = sym (faultless es (begins es more up)) ∙ s.1 in
        cc

    module _ {K : Type 0} (bytes : K → List ℕ) (all : List (K × V)) (up : IsAscending (pairs_in bytes all)) where
      pub load-all : (xs : List (K × V)) (pairs : List (List ℕ × V)) → xs ≡ all → pairs ≡ last_wins (pairs_in bytes xs)
          → pairs ≡ pairs_in bytes all
      load-all xs pairs q e = e ∙ ap (λ z. last_wins (pairs_in bytes z)) q ∙ stays (pairs_in bytes all) up

      pub load-refused : (xs more : List (K × V)) (e : BulkError) → all ≡ xs ++ more → FailsSorted (pairs_in bytes xs) e
          → MayRefuseLoad (pairs_in bytes all) e
      load-refused xs more e q s =
          let parts : pairs_in bytes all ≡ pairs_in bytes xs ++ pairs_in bytes more = ap (pairs_in bytes) q
          ∙ map-append (λ p. (bytes p.0, p.1)) xs more in
          rw parts (refused-begun (pairs_in bytes xs) (pairs_in bytes more) e (rw parts at up) s)

-- pairs that are put in, one after the other, until one is refused
module _ {K V : Type 0} (bytes : K → List ℕ) where
  pub one-refused : (all xs : List (K × V)) (x : K × V) (more : List (K × V)) (old : List (List ℕ × V)) (error : _)
      → all ≡ (xs ++ x ∷ []) ++ more → old ≡ put_all (pairs_in bytes xs) [] → MayRefuseInsert old (bytes x.0) error
      → MayRefuseOneOf (pairs_in bytes all) error
  one-refused all xs x more old error q o r =
      let parts = ap (pairs_in bytes) (q ∙ append_assoc xs (x ∷ []) more)
      ∙ map-append (λ p. (bytes p.0, p.1)) xs (x ∷ more) in
      (pairs_in bytes xs, (bytes x.0, x.1), pairs_in bytes more, parts, rw (← o) r)
