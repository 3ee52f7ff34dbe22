-- What a removal leaves of a tree's pairs: their number and the longest key.
use Rattle.std.proofs.Common.{◌≡◌, ℕ, ◌+◌, ◌≤◌, not, true, false, List, [], ◌∷◌, length, Option, Some, None, refl, ap}
use Rattle.std.proofs.Common.{arith, if◌then◌else◌}
use Rattle.rart_keys.specs.ByteStrings.{bytes_eq}
use Rattle.rart_keys.specs.SortedMap.{AreAbove, IsAscending, count_of, lookup, without, longest_key}
use Rattle.rart_keys.proofs.strings.ByteOrder.{below-not_eq, bytes_eq-back, bytes_eq-equal}
use Rattle.rart_trie.specs.tries.Tree.{IsCanonicalTree, tree_pairs, tree_remove}
use Rattle.rart_trie.specs.tries.Trie.{Trie}
use Rattle.rart_trie.proofs.removals.RemoveLemmas.{canonical-removed, pairs_of-removed}

module _ {V : Type 0} where
  pub without-above : (k : List ℕ) (es : List (List ℕ × V)) → AreAbove k es → without k es ≡ es
  without-above k [] a = refl
  without-above k (e ∷ es) a = rw (bytes_eq-back e.0 k, below-not_eq k e.0 a.0)
      (ap (λ l. e ∷ l) (without-above k es a.1))

  pub length-without_key : (k : List ℕ) (es : List (List ℕ × V)) → IsAscending es
      → length (without k es) + count_of (lookup k es) ≡ length es
  length-without_key k [] a = refl
  length-without_key k (e ∷ es) a = elim (bytes_eq e.0 k) as (λ z. bytes_eq e.0 k ≡ z
      → length (if not z then e ∷ without k es else without k es) + count_of (if z then Some e.1 else lookup k es)
      ≡ length (e ∷ es)) [
        | true ↦ λ q. omega (arith, ap length (without-above k es (rw (bytes_eq-equal e.0 k q) at a.0)))
        | false ↦ λ q. omega (arith, length-without_key k es a.1)
      ] refl

  pub longest_key-without : (k : List ℕ) (es : List (List ℕ × V)) → longest_key (without k es) ≤ longest_key es
  longest_key-without k [] = omega arith
  longest_key-without k (e ∷ es) = elim (bytes_eq e.0 k)
      as (λ z. longest_key (if not z then e ∷ without k es else without k es) ≤ longest_key (e ∷ es)) [
        | true ↦ omega (arith, longest_key-without k es)
        | false ↦ omega (arith, longest_key-without k es)
      ]

  pub tree_canonical-removed : (k : List ℕ) (t : Option (Trie V)) → IsCanonicalTree t
      → IsCanonicalTree (tree_remove k t)
  tree_canonical-removed k None w = tt
  tree_canonical-removed k (Some t) w = canonical-removed k t w

  pub tree_pairs-removed : (k : List ℕ) (t : Option (Trie V)) → IsCanonicalTree t
      → tree_pairs (tree_remove k t) ≡ without k (tree_pairs t)
  tree_pairs-removed k None w = refl
  tree_pairs-removed k (Some t) w = pairs_of-removed k t w
