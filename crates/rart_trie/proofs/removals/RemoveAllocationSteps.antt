-- Where a removal requests memory at one node, as the code does.
use Rattle.std.proofs.Common.{◌≡◌, ℕ, ◌+◌, ◌-◌, ◌<◌, ◌≤◌, ◌==◌, ◌&&◌, not, true, false, List, [], ◌∷◌, length, Option}
use Rattle.std.proofs.Common.{Some, None, refl, arith, ap, ◌∙◌}
use Rattle.std.specs.Option.{unwrap_or}
use Rattle.std.specs.Prelude.{nat_le}
use Rattle.std.proofs.lemmas.Bool.Decides.{nat_tests}
use Rattle.rart_keys.specs.ByteStrings.{strip_prefix}
use Rattle.rart_trie.specs.edits.Deletion.{is_end, is_leaf_at}
use Rattle.rart_trie.specs.edits.RemoveAllocations.{remove_allocation, moves_down, trie_remove_allocates}
use Rattle.rart_trie.specs.shapes.Shape.{capacity_of}
use Rattle.rart_trie.specs.tries.Trie.{Trie, node, no_children, child, by_rest, descend, edges_of, record_of}
use Rattle.rart_trie.specs.tries.TrieCode.{as_children}
use Rattle.rart_trie.specs.storages.Capacities.{previous_capacity}
use Rattle.rart_trie.proofs.edits.PutAllocationLemmas.{allocated}
use Rattle.rart_trie.proofs.tries.Descents.{descend-at, descend-followed}
use Rattle.rart_trie.proofs.tries.RestLemmas.{Follows}

pub moves-yes : (m w : ℕ) → w ≡ capacity_of m → 4 < w → m ≤ previous_capacity w + 1
    → (nat_le 2 m && not (capacity_of (m - 1) == w)) ≡ true
moves-yes m w e wide few = grind (arith, nat_tests)

module _ {V : Type 0} where
  -- at a child that is removed
  leaf-allocates : (k : List ℕ) (t : Trie V) → is_leaf_at k t ≡ true → descend remove_allocation k t ≡ None
  leaf-allocates k (node p v w no_children) h = elim (strip_prefix p k) as (λ o. is_end o ≡ true
      → by_rest (Some false) None (λ a. Some (unwrap_or a (moves_down (Some (record_of (node p v w no_children)))))) o
      (λ b r. Some false) ≡ None) [
        | None ↦ λ h. absurd (cc)
        | Some r ↦ elim r as (λ r. is_end (Some r) ≡ true
            → by_rest (Some false) None (λ a. Some (unwrap_or a
            (moves_down (Some (record_of (node p v w no_children))))))
            (Some r) (λ b r. Some false) ≡ None) [ [] ↦ λ h. refl | b ∷ r ↦ λ h. absurd (cc) ]
      ] h
  leaf-allocates k (node p v w (child b t cs)) h = absurd (cc)

module _ {V : Type 0} {p k r : List ℕ} {v : Option V} {w b : ℕ} {t : Trie V} {es : List (ℕ × Trie V)}
    (f : Follows p k r v w b t es) where
  removes-step : trie_remove_allocates None k (node p v w (as_children es))
      ≡ trie_remove_allocates (Some (record_of (node p v w (as_children es)))) r t
  removes-step
      = ap (λ o. unwrap_or o false) (descend-followed remove_allocation p k r b v w (as_children es) f.left f.first)
      ∙ ap (λ o. unwrap_or o (moves_down (Some (record_of (node p v w (as_children es))))))
      (descend-at remove_allocation b 0 r (Some t) es f.canonical.2 f.there)

  -- below a child that stays
  pub remove_allocation-below : is_leaf_at r t ≡ false → trie_remove_allocates None r t ≡ true
      → trie_remove_allocates None k (node p v w (as_children es)) ≡ true
  remove_allocation-below stays allocates = removes-step
      ∙ allocated (descend remove_allocation r t) (moves_down (Some (record_of (node p v w
      (as_children es))))) allocates

  pub remove_allocation-leaf : (w' : ℕ) (es' : List (ℕ × Trie V)) → is_leaf_at r t ≡ true → w' ≡ w → es' ≡ es → 4 < w'
      → length (edges_of (as_children es')) ≤ previous_capacity w' + 1
      → trie_remove_allocates None k (node p v w (as_children es)) ≡ true
  remove_allocation-leaf w' es' goes ew ee wide few = removes-step
      ∙ ap (λ o. unwrap_or o (moves_down (Some (record_of (node p v w (as_children es)))))) (leaf-allocates r t goes)
      ∙ moves-yes (length (edges_of (as_children es))) w f.canonical.1 (rw ew at wide) (rw (ew, ee) at few)
