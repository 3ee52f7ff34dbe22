-- The join of two maps: it ascends, it is looked up in both, and swapping the maps swaps the values alone.
use Rattle.std.proofs.Common.{◌≡◌, ℕ, ◌+◌, ◌≤◌, true, false, List, [], ◌∷◌, length, refl, sym, ap, ◌∙◌, arith, Option}
use Rattle.std.proofs.Common.{Some, None, if◌then◌else◌}
use Rattle.rart_keys.specs.ByteStrings.{bytes_eq}
use Rattle.rart_keys.specs.SortedMap.{AreAbove, IsAscending, lookup}
use Rattle.rart_keys.specs.Joins.{both, ahead_if, join, swapped_pairs}
use Rattle.rart_keys.proofs.strings.ByteOrder.{bytes_eq-equal}
use Rattle.rart_keys.proofs.maps.SortedMaps.{equal_by_lookups}

module _ {V W : Type 0} where
  pub both-none : (x : Option V) → ◌≡◌ {A = Option (V × W)} (both x None) None
  both-none None = refl
  both-none (Some v) = refl

  above-join : (k : List ℕ) (es : List (List ℕ × V)) (m : List (List ℕ × W)) → AreAbove k es → AreAbove k (join es m)
  above-join k [] m h = tt
  above-join k (e ∷ es) m h = elim (lookup e.0 m) as (λ o. AreAbove k (ahead_if e.0 e.1 o (join es m)))
      [ None ↦ above-join k es m h.1 | Some w ↦ (h.0, above-join k es m h.1) ]

  pub join-ascends : (es : List (List ℕ × V)) (m : List (List ℕ × W)) → IsAscending es → IsAscending (join es m)
  join-ascends [] m h = tt
  join-ascends (e ∷ es) m h = elim (lookup e.0 m) as (λ o. IsAscending (ahead_if e.0 e.1 o (join es m)))
      [ None ↦ join-ascends es m h.1 | Some w ↦ (above-join e.0 es m h.0, join-ascends es m h.1) ]

  pub lookup-join : (k : List ℕ) (es : List (List ℕ × V)) (m : List (List ℕ × W)) → IsAscending es
      → lookup k (join es m) ≡ both (lookup k es) (lookup k m)
  lookup-join k [] m h = refl
  lookup-join k (e ∷ es) m h = elim (lookup e.0 m) as (λ o. lookup e.0 m ≡ o → lookup k (ahead_if e.0 e.1 o (join es m))
      ≡ both (if bytes_eq e.0 k then Some e.1 else lookup k es) (lookup k m)) [
        | None ↦ λ o. rw (lookup-join k es m h.1)
            (elim (bytes_eq e.0 k) as (λ b. bytes_eq e.0 k ≡ b
            → both (lookup k es) (lookup k m) ≡ both (if b then Some e.1 else lookup k es) (lookup k m)) [
              | true ↦ λ s. let q : lookup k m ≡ None = ap (λ z. lookup z m) (sym (bytes_eq-equal e.0 k s)) ∙ o in
                  rw q (both-none (lookup k es))
              | false ↦ λ s. refl
            ] refl)
        | Some w ↦ λ o. rw (lookup-join k es m h.1)
            (elim (bytes_eq e.0 k) as (λ b. bytes_eq e.0 k ≡ b
            → (if b then Some (e.1, w) else both (lookup k es) (lookup k m))
            ≡ both (if b then Some e.1 else lookup k es) (lookup k m)) [
              | true ↦ λ s. let q : lookup k m ≡ Some w = ap (λ z. lookup z m) (sym (bytes_eq-equal e.0 k s)) ∙ o in
                  rw q refl
              | false ↦ λ s. refl
            ] refl)
      ] refl

  pub join-nil : (es : List (List ℕ × V)) → ◌≡◌ {A = List (List ℕ × (V × W))} (join es []) []
  join-nil [] = refl
  join-nil (e ∷ es) = join-nil es

  -- the other way round
  above-swapped : (k : List ℕ) (es : List (List ℕ × (V × W))) → AreAbove k es → AreAbove k (swapped_pairs es)
  above-swapped k [] h = tt
  above-swapped k (e ∷ es) h = (h.0, above-swapped k es h.1)

  swapped-ascends : (es : List (List ℕ × (V × W))) → IsAscending es → IsAscending (swapped_pairs es)
  swapped-ascends [] h = tt
  swapped-ascends (e ∷ es) h = (above-swapped e.0 es h.0, swapped-ascends es h.1)

  other_way : Option (V × W) → Option (W × V)
  other_way None = None
  other_way (Some e) = Some (e.1, e.0)

  lookup-swapped : (k : List ℕ) (es : List (List ℕ × (V × W))) → lookup k (swapped_pairs es) ≡ other_way (lookup k es)
  unfolding other_way
  lookup-swapped k [] = refl
  lookup-swapped k (e ∷ es) = rw (lookup-swapped k es)
      (elim (bytes_eq e.0 k) as (λ b. (if b then Some (e.1.1, e.1.0) else other_way (lookup k es))
      ≡ other_way (if b then Some e.1 else lookup k es)) [ true ↦ refl | false ↦ refl ])

  both-other_way : (x : Option V) (y : Option W) → both y x ≡ other_way (both x y)
  unfolding other_way
  both-other_way None None = refl
  both-other_way None (Some w) = refl
  both-other_way (Some v) None = refl
  both-other_way (Some v) (Some w) = refl

module _ {V W : Type 0} where
  pub join-swapped : (es : List (List ℕ × V)) (m : List (List ℕ × W)) → IsAscending es → IsAscending m
      → join m es ≡ swapped_pairs (join es m)
  join-swapped es m h g = equal_by_lookups (join m es) (swapped_pairs (join es m)) (join-ascends m es g)
      (swapped-ascends (join es m) (join-ascends es m h))
      (λ k. lookup-join k m es g ∙ both-other_way (lookup k es) (lookup k m) ∙ ap other_way (sym (lookup-join k es m h))
      ∙ sym (lookup-swapped k (join es m)))

  few-ahead : (k : List ℕ) (v : V) (o : Option W) (es : List (List ℕ × (V × W)))
      → length (ahead_if k v o es) ≤ length es + 1
  few-ahead k v None es = omega arith
  few-ahead k v (Some w) es = omega arith

  pub few-joined : (l : List (List ℕ × V)) (m : List (List ℕ × W)) → length (join l m) ≤ length l
  few-joined [] m = omega arith
  few-joined (e ∷ l) m = omega (arith, few-joined l m, few-ahead e.0 e.1 (lookup e.0 m) (join l m))
