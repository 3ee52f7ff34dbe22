-- Lists whose keys begin with a byte, or with one from `low` on.
use Rattle.std.proofs.Common.{◌≡◌, ℕ, ◌≤◌, suc, true, false, Some, List, [], ◌∷◌, ◌++◌, refl, arith}
use Rattle.rart_keys.specs.ByteStrings.{bytes_eq, IsLess}
use Rattle.rart_keys.specs.SortedMap.{AreAbove, IsAscending, lookup}
use Rattle.rart_trie.specs.tries.Trie.{Trie, node, Children, no_children, child, pairs_of, children_pairs, with_prefix}
use Rattle.rart_trie.specs.tries.Trie.{own_pair, prefix_of, StartsWith, AreCanonical}
use Rattle.rart_keys.proofs.strings.ByteOrder.{is_less, below-with_prefix, bytes_eq-equal}
use Rattle.rart_keys.proofs.maps.SortedMaps.{lookup-first}

abbrev pub AllFirst : {V : Type 0} → ℕ → List (List ℕ × V) → Type 0
AllFirst c [] = Unit {0}
AllFirst c (e ∷ es) = StartsWith c e.0 × AllFirst c es

abbrev pub IsFrom : ℕ → List ℕ → Type 0
IsFrom low [] = ⊥
IsFrom low (x ∷ xs) = low ≤ x

abbrev pub AllFrom : {V : Type 0} → ℕ → List (List ℕ × V) → Type 0
AllFrom low [] = Unit {0}
AllFrom low (e ∷ es) = IsFrom low e.0 × AllFrom low es

pub first-append : (c : ℕ) (p k : List ℕ) → StartsWith c p → StartsWith c (p ++ k)
first-append c [] k h = absurd h
first-append c (x ∷ p) k h = h

from_first : (low c : ℕ) (k : List ℕ) → low ≤ c → StartsWith c k → IsFrom low k
from_first low c [] l h = h
from_first low c (x ∷ k) l h = omega arith

from_more : (low c : ℕ) (k : List ℕ) → low ≤ c → IsFrom c k → IsFrom low k
from_more low c [] l h = h
from_more low c (x ∷ k) l h = omega arith

nil-below_from : (low : ℕ) (k : List ℕ) → IsFrom low k → IsLess [] k
nil-below_from low [] h = absurd h
nil-below_from low (x ∷ k) h = refl

first-below_from : (c : ℕ) (k l : List ℕ) → StartsWith c k → IsFrom (suc c) l → IsLess k l
first-below_from c [] l f h = absurd f
first-below_from c (x ∷ k) [] f h = absurd h
first-below_from c (x ∷ k) (y ∷ l) f h = rw (is_less x y (omega arith)) refl

module _ {V : Type 0} where
  all_first-with_prefix : (c : ℕ) (p : List ℕ) (es : List (List ℕ × V)) → StartsWith c p
      → AllFirst c (with_prefix p es)
  all_first-with_prefix c p [] h = tt
  all_first-with_prefix c p (e ∷ es) h = (first-append c p e.0 h, all_first-with_prefix c p es h)

  pub pairs_of-first : (c : ℕ) (t : Trie V) → StartsWith c (prefix_of t) → AllFirst c (pairs_of t)
  pairs_of-first c (node p v n cs) h = all_first-with_prefix c p (own_pair v ++ children_pairs cs) h

  pub all_from-first : (low c : ℕ) (es fs : List (List ℕ × V)) → low ≤ c → AllFirst c es → AllFrom (suc c) fs
      → AllFrom low (es ++ fs)
  all_from-first low c [] [] l h g = tt
  all_from-first low c [] (f ∷ fs) l h g = (
    from_more low (suc c) f.0 (omega arith) g.0,
    all_from-first low c [] fs l h
        g.1,
  )
  all_from-first low c (e ∷ es) fs l h g = (from_first low c e.0 l h.0, all_from-first low c es fs l h.1 g)

  pub children_pairs-from : (low : ℕ) (cs : Children V) → AreCanonical low cs → AllFrom low (children_pairs cs)
  children_pairs-from low no_children w = tt
  children_pairs-from low (child b t cs) w
      = all_from-first low b (pairs_of t) (children_pairs cs) w.0 (pairs_of-first b t w.1)
      (children_pairs-from (suc b) cs w.3)

  pub nil-above : (low : ℕ) (es : List (List ℕ × V)) → AllFrom low es → AreAbove [] es
  nil-above low [] h = tt
  nil-above low (e ∷ es) h = (nil-below_from low e.0 h.0, nil-above low es h.1)

  first-above : (c : ℕ) (k : List ℕ) (es : List (List ℕ × V)) → StartsWith c k → AllFrom (suc c) es → AreAbove k es
  first-above c k [] f h = tt
  first-above c k (e ∷ es) f h = (first-below_from c k e.0 f h.0, first-above c k es f h.1)

  above-append : (k : List ℕ) (xs ys : List (List ℕ × V)) → AreAbove k xs → AreAbove k ys → AreAbove k (xs ++ ys)
  above-append k [] ys g h = h
  above-append k (x ∷ xs) ys g h = (g.0, above-append k xs ys g.1 h)

  pub ascending-append : (c : ℕ) (xs ys : List (List ℕ × V)) → AllFirst c xs → AllFrom (suc c) ys → IsAscending xs
      → IsAscending ys → IsAscending (xs ++ ys)
  ascending-append c [] ys f g a b = b
  ascending-append c (x ∷ xs) ys f g a b = (
    above-append x.0 xs ys a.0 (first-above c x.0 ys f.0 g),
    ascending-append c
        xs ys f.1 g a.1 b,
  )

  above-with_prefix : (p k : List ℕ) (es : List (List ℕ × V)) → AreAbove k es → AreAbove (p ++ k) (with_prefix p es)
  above-with_prefix p k [] h = tt
  above-with_prefix p k (e ∷ es) h = (below-with_prefix p k e.0 h.0, above-with_prefix p k es h.1)

  pub ascending-with_prefix : (p : List ℕ) (es : List (List ℕ × V)) → IsAscending es → IsAscending (with_prefix p es)
  ascending-with_prefix p [] h = tt
  ascending-with_prefix p (e ∷ es) h = (above-with_prefix p e.0 es h.0, ascending-with_prefix p es h.1)

  -- by the look-ups
  pub all_first-looks : (c : ℕ) (es : List (List ℕ × V))
      → ((k : List ℕ) (v : V) → lookup k es ≡ Some v → StartsWith c k) → AllFirst c es
  all_first-looks c [] h = tt
  all_first-looks c (e ∷ es) h = let f = h e.0 e.1 (lookup-first e.0 e.1 es) in (
    f,
    all_first-looks c es (λ k v l. elim (bytes_eq e.0 k) as (λ b. bytes_eq e.0 k ≡ b → StartsWith c k) [
      | true ↦ λ s. rw (← bytes_eq-equal e.0 k s) f
      | false ↦ λ s. h k v (rw s l)
    ] refl),
  )
