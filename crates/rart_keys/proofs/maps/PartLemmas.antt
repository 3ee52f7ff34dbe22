-- Parts of a map: the pairs whose key passes a test.
use Rattle.std.proofs.Common.{◌≡◌, ℕ, ◌&&◌, Bool, true, false, List, [], ◌∷◌, refl, ap, ◌∙◌, Some, None}
use Rattle.std.proofs.Common.{if◌then◌else◌}
use Rattle.std.specs.List.{filter}
use Rattle.std.specs.declared.ops.Bound.{Bound}
use Rattle.rart_keys.specs.ByteStrings.{bytes_eq}
use Rattle.rart_keys.specs.Ranges.{between, is_from, is_to}
use Rattle.rart_keys.specs.SortedMap.{AreAbove, IsAscending, lookup}
use Rattle.rart_keys.proofs.strings.ByteOrder.{bytes_eq-differ, bytes_eq-equal}

module _ {V : Type 0} where
  above-filter : (f : List ℕ → Bool) (k : List ℕ) (es : List (List ℕ × V)) → AreAbove k es
      → AreAbove k (filter (λ e. f e.0) es)
  above-filter f k [] a = tt
  above-filter f k (e ∷ es) a = elim (f e.0)
      as (λ b. AreAbove k (if b then e ∷ filter (λ z. f z.0) es else filter (λ z. f z.0) es)) [
        | true ↦ (a.0, above-filter f k es a.1)
        | false ↦ above-filter f k es a.1
      ]

  pub ascending-filter : (f : List ℕ → Bool) (es : List (List ℕ × V)) → IsAscending es
      → IsAscending (filter (λ e. f e.0) es)
  ascending-filter f [] a = tt
  ascending-filter f (e ∷ es) a = elim (f e.0)
      as (λ b. IsAscending (if b then e ∷ filter (λ z. f z.0) es else filter (λ z. f z.0) es)) [
        | true ↦ (above-filter f e.0 es a.0, ascending-filter f es a.1)
        | false ↦ ascending-filter f es a.1
      ]

  -- a key that passes keeps its value
  pub lookup-passed : (f : List ℕ → Bool) (k : List ℕ) (es : List (List ℕ × V)) → f k ≡ true
      → lookup k (filter (λ e. f e.0) es) ≡ lookup k es
  lookup-passed f k [] h = refl
  lookup-passed f k (e ∷ es) h = elim (bytes_eq e.0 k) as (λ b. bytes_eq e.0 k ≡ b
      → lookup k (if f e.0 then e ∷ filter (λ z. f z.0) es else filter (λ z. f z.0) es)
      ≡ (if b then Some e.1 else lookup k es)) [
        | true ↦ λ s. let passes : f e.0 ≡ true = ap f (bytes_eq-equal e.0 k s) ∙ h in rw (passes, s) refl
        | false ↦ λ s. elim (f e.0)
            as (λ b. lookup k (if b then e ∷ filter (λ z. f z.0) es else filter (λ z. f z.0) es) ≡ lookup k es) [
              | true ↦ rw s (lookup-passed f k es h)
              | false ↦ lookup-passed f k es h
            ]
      ] refl

  -- a key that doesn't pass has none
  pub lookup-failed : (f : List ℕ → Bool) (k : List ℕ) (es : List (List ℕ × V)) → f k ≡ false
      → lookup k (filter (λ e. f e.0) es) ≡ None
  lookup-failed f k [] h = refl
  lookup-failed f k (e ∷ es) h = elim (f e.0) as (λ b. f e.0 ≡ b
      → lookup k (if b then e ∷ filter (λ z. f z.0) es else filter (λ z. f z.0) es) ≡ None) [
        | true ↦ λ s. let differs : bytes_eq e.0 k ≡ false = bytes_eq-differ e.0 k (λ m. let t = ap f m in cc) in
            rw differs (lookup-failed f k es h)
        | false ↦ λ s. lookup-failed f k es h
      ] refl

  -- the pairs between two bounds
  pub lookup-inside : (a b : Bound (List ℕ)) (k : List ℕ) (es : List (List ℕ × V)) → is_from a k ≡ true
      → is_to b k ≡ true → lookup k (between a b es) ≡ lookup k es
  lookup-inside a b k es from to = lookup-passed (λ l. is_from a l && is_to b l) k es (rw (from, to) refl)

  pub lookup-before : (a b : Bound (List ℕ)) (k : List ℕ) (es : List (List ℕ × V)) → is_from a k ≡ false
      → lookup k (between a b es) ≡ None
  lookup-before a b k es from = lookup-failed (λ l. is_from a l && is_to b l) k es (rw from refl)

  pub lookup-after : (a b : Bound (List ℕ)) (k : List ℕ) (es : List (List ℕ × V)) → is_to b k ≡ false
      → lookup k (between a b es) ≡ None
  lookup-after a b k es to = lookup-failed (λ l. is_from a l && is_to b l) k es
      (rw to (elim (is_from a k) as (λ z. z && false ≡ false) [ true ↦ refl | false ↦ refl ]))
