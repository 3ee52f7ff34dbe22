-- The union of two maps ascends, is looked up in both, and swapping the maps swaps the values alone.
use Rattle.std.proofs.Common.{◌≡◌, ℕ, List, [], ◌∷◌, true, false, refl, sym, ap, ◌∙◌, Option, Some, None, if◌then◌else◌}
use Rattle.std.specs.Prelude.{◌≢◌}
use Rattle.rart_keys.specs.ByteStrings.{bytes_eq}
use Rattle.rart_keys.specs.Joins.{swapped_pairs}
use Rattle.rart_keys.specs.SortedMap.{AreAbove, IsAscending, lookup, put}
use Rattle.rart.specs.Unions.{either, union_of}
use Rattle.rart.proofs.trees.UnionLemmas.{above-seconds, from-same, same-bytes}

seconds-ascend : {W : Type 0} (V : Type 0) (m : List (List ℕ × W)) → IsAscending m → IsAscending (union_of {V = V} [] m)
seconds-ascend V [] h = tt
seconds-ascend V (e ∷ m) h = (above-seconds V e.0 m h.0, seconds-ascend V m h.1)

lookup-seconds : {W : Type 0} (V : Type 0) (k : List ℕ) (m : List (List ℕ × W))
    → lookup k (union_of {V = V} [] m) ≡ either None (lookup k m)
lookup-seconds V k [] = refl
lookup-seconds V k (e ∷ m) = elim (bytes_eq e.0 k) as (λ b. (if b then Some (None, Some e.1) else
    lookup k (union_of {V = V} [] m)) ≡ either None (if b then Some e.1 else lookup k m)) [
      | true ↦ refl
      | false ↦ lookup-seconds V k m
    ]

module _ {V W : Type 0} where
  pub union-ascends : ((k : List ℕ) (v : Option V × Option W) (es : List (List ℕ × (Option V × Option W)))
      → IsAscending es → IsAscending (put k v es)) → (l : List (List ℕ × V)) (m : List (List ℕ × W)) → IsAscending m
      → IsAscending (union_of l m)
  union-ascends puts [] m h = seconds-ascend V m h
  union-ascends puts (d ∷ l) m h = puts d.0 (Some d.1, lookup d.0 m) (union_of l m) (union-ascends puts l m h)

  module _ (at : (k : List ℕ) (v : Option V × Option W) (es : List (List ℕ × (Option V × Option W)))
      → lookup k (put k v es) ≡ Some v)
      (elsewhere : (q k : List ℕ) (v : Option V × Option W) (es : List (List ℕ × (Option V × Option W))) → q ≢ k
      → lookup q (put k v es) ≡ lookup q es) where
    pub lookup-union : (k : List ℕ) (l : List (List ℕ × V)) (m : List (List ℕ × W))
        → lookup k (union_of l m) ≡ either (lookup k l) (lookup k m)
    lookup-union k [] m = lookup-seconds V k m
    lookup-union k (d ∷ l) m = elim (bytes_eq d.0 k) as (λ b. bytes_eq d.0 k ≡ b
        → lookup k (put d.0 (Some d.1, lookup d.0 m) (union_of l m))
        ≡ either (if b then Some d.1 else lookup k l) (lookup k m)) [
          | true ↦ λ e. let same = from-same d.0 k e in
              ap (λ z. lookup k (put z (Some d.1, lookup z m) (union_of l m))) same
              ∙ at k (Some d.1, lookup k m) (union_of l m)
          | false ↦ λ e. elsewhere k d.0 (Some d.1, lookup d.0 m) (union_of l m)
              (λ s. let yes = same-bytes d.0 in let no : bytes_eq d.0 d.0 ≡ false = rw s at e in cc)
              ∙ lookup-union k l m
        ] refl

  -- the other way round
  above-swapped : (k : List ℕ) (es : List (List ℕ × (V × W))) → AreAbove k es → AreAbove k (swapped_pairs es)
  above-swapped k [] h = tt
  above-swapped k (e ∷ es) h = (h.0, above-swapped k es h.1)

  swapped-ascends : (es : List (List ℕ × (V × W))) → IsAscending es → IsAscending (swapped_pairs es)
  swapped-ascends [] h = tt
  swapped-ascends (e ∷ es) h = (above-swapped e.0 es h.0, swapped-ascends es h.1)

  other_way : Option (V × W) → Option (W × V)
  other_way None = None
  other_way (Some e) = Some (e.1, e.0)

  lookup-swapped : (k : List ℕ) (es : List (List ℕ × (V × W))) → lookup k (swapped_pairs es) ≡ other_way (lookup k es)
  unfolding other_way
  lookup-swapped k [] = refl
  lookup-swapped k (e ∷ es) = rw (lookup-swapped k es)
      (elim (bytes_eq e.0 k) as (λ b. (if b then Some (e.1.1, e.1.0) else other_way (lookup k es))
      ≡ other_way (if b then Some e.1 else lookup k es)) [ true ↦ refl | false ↦ refl ])

module _ {V W : Type 0} where
  either-other_way : (x : Option V) (y : Option W) → either y x ≡ other_way (either x y)
  unfolding other_way
  either-other_way None None = refl
  either-other_way None (Some w) = refl
  either-other_way (Some v) None = refl
  either-other_way (Some v) (Some w) = refl

  pub union-swapped : ((xs ys : List (List ℕ × (Option W × Option V))) → IsAscending xs → IsAscending ys
      → ((q : List ℕ) → lookup q xs ≡ lookup q ys) → xs ≡ ys) → (l : List (List ℕ × V)) (m : List (List ℕ × W))
      → IsAscending (union_of l m) → IsAscending (union_of m l)
      → ((q : List ℕ) → lookup q (union_of l m) ≡ either (lookup q l) (lookup q m))
      → ((q : List ℕ) → lookup q (union_of m l) ≡ either (lookup q m) (lookup q l))
      → union_of m l ≡ swapped_pairs (union_of l m)
  union-swapped one l m up up-back looks looks-back =
      one (union_of m l) (swapped_pairs (union_of l m)) up-back (swapped-ascends (union_of l m) up)
      (λ q. looks-back q ∙ either-other_way (lookup q l) (lookup q m) ∙ ap other_way (sym (looks q))
      ∙ sym (lookup-swapped q (union_of l m)))
