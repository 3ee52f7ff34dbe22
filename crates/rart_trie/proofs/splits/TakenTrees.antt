-- A tree that is split: the step at its root, and what the two trees are.
use Rattle.std.proofs.Common.{◌≡◌, ℕ, ◌+◌, ◌<◌, ◌≤◌, Bool, true, false, not, List, [], ◌∷◌, length, ap, ◌∙◌}
use Rattle.std.proofs.Common.{arith, Option, Some, None, if◌then◌else◌}
use Rattle.std.specs.Prelude.{Err, IfOk, Ok, OnOk, Result, reverse}
use Rattle.rart_keys.specs.SortedMap.{longest_key}
use Rattle.rart_trie.specs.declared.node.edits.split.Step.{Step}
use Rattle.rart_trie.specs.declared.node.edits.split.Step.TheVariants.{Whole}
use Rattle.rart_trie.specs.edits.Splits.{SplitsTreeBy, complement, option_where, tree_where}
use Rattle.rart_trie.specs.tries.Tree.{IsCanonicalTree, tree_pairs}
use Rattle.rart_trie.specs.tries.Trie.{Trie}
use Rattle.rart_trie.proofs.changes.ValueChangeLemmas.{pairs_where}
use Rattle.rart_trie.proofs.removals.PrefixFilters.{longest_key-filter}
use Rattle.rart_trie.proofs.splits.SideSteps.{no-steps, some-items, splits-whole}
use Rattle.rart_trie.proofs.splits.SplitTries.{tree_canonical-where, tree_pairs-where}

module _ {P V : Type 0} where
  pub tree-steps : (t : List ℕ → Bool) (o : Option (Trie V)) (items : List (Step P V))
      → SplitsTreeBy t o (reverse items) → 0 < length items
  tree-steps t None items h = absurd h
  tree-steps t (Some u) items h = some-items items
      (λ e. no-steps t u [] (rw e at h))

  -- a root that is all on one side
  pub tree-whole : (t : List ℕ → Bool) (h : Bool) (o : Option (Trie V)) (steps after : List (Step P V))
      → SplitsTreeBy t o steps → steps ≡ Whole h ∷ after
      → (tree_where t o ≡ option_where h o) × (tree_where (complement t) o ≡ option_where (not h) o)
  tree-whole t h None steps after x e = absurd x
  tree-whole t h (Some u) steps after x e = (splits-whole t h u after [] (rw e at x)).1

module _ {V : Type 0} (t : List ℕ → Bool) where
  parted-length : (es : List (List ℕ × V))
      → length (pairs_where (complement t) es) + length (pairs_where t es) ≡ length es
  parted-length [] = omega arith
  parted-length (e ∷ es) = elim (t e.0) as (λ z. length (if not z then e ∷ pairs_where (complement t) es
      else pairs_where (complement t) es) + length (if z then e ∷ pairs_where t es else pairs_where t es)
      ≡ length (e ∷ es)) [
        | true ↦ omega (arith, parted-length es)
        | false ↦ omega (arith, parted-length es)
      ]

  pub part-short : (o p : Option (Trie V)) → p ≡ tree_where t o
      → longest_key (tree_pairs p) ≤ longest_key (tree_pairs o)
  part-short o p e = omega (
    arith,
    ap (λ z. longest_key (tree_pairs z)) e,
    ap longest_key (tree_pairs-where t o),
    longest_key-filter (λ x. t x.0) (tree_pairs o),
  )

-- what is taken of a tree
module _ {V E : Type 0} (t : List ℕ → Bool) where
  pub taken-canonical : (r : Result (Option (Trie V)) E) (o : Option (Trie V)) → IsCanonicalTree o
      → IfOk r (λ x. x ≡ tree_where t o) → IfOk r (λ x. IsCanonicalTree x)
  taken-canonical (Ok x) o w e = rw e (tree_canonical-where t o w)
  taken-canonical (Err z) o w e = tt

  pub taken-pairs : (r : Result (Option (Trie V)) E) (o : Option (Trie V)) → IfOk r (λ x. x ≡ tree_where t o)
      → IfOk r (λ x. tree_pairs x ≡ pairs_where t (tree_pairs o))
  taken-pairs (Ok x) o e = ap tree_pairs e ∙ tree_pairs-where t o
  taken-pairs (Err z) o e = tt

  pub taken-short : (r : Result (Option (Trie V)) E) (o : Option (Trie V)) → IfOk r (λ x. x ≡ tree_where t o)
      → IfOk r (λ x. longest_key (tree_pairs x) ≤ longest_key (tree_pairs o))
  taken-short (Ok x) o e = part-short t o x e
  taken-short (Err z) o e = tt

  pub taken-count : (r : Result (Option (Trie V)) E) (o p : Option (Trie V)) → IfOk r (λ x. x ≡ tree_where t o)
      → OnOk r (p ≡ tree_where (complement t) o)
      → IfOk r (λ x. length (tree_pairs p) + length (tree_pairs x) ≡ length (tree_pairs o))
  taken-count (Ok x) o p e f = omega (
    arith,
    ap length (ap tree_pairs e ∙ tree_pairs-where t o),
    ap length (ap tree_pairs f ∙ tree_pairs-where (complement t) o),
    parted-length t (tree_pairs o),
  )
  taken-count (Err z) o p e f = tt
