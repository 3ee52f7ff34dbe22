-- The edits of a node made by hand, by the entries of its storage.
use Rattle.std.proofs.Common.{◌≡◌, ℕ, cond, eqb, ltb, true, false, List, [], ◌∷◌, length, Option, Some, None, refl, sym}
use Rattle.std.proofs.Common.{ap, ◌∙◌}
use Rattle.std.specs.Prelude.{option_map}
use Rattle.rart_parts.specs.Entries as entries
use Rattle.rart_trie.specs.edits.NodeEdits.{children_with, with_child}
use Rattle.rart_trie.specs.tries.Trie.{Trie, node, child, edges_of}
use Rattle.rart_trie.specs.tries.TrieCode.{as_children}
use Rattle.rart_trie.specs.storages.Capacities.{widened_capacity}
use Rattle.rart_trie.proofs.storages.ChildLemmas.{edges_of-length}

pub same-option : {A : Type 0} (o : Option A) → option_map (λ n. n) o ≡ o
same-option None = refl
same-option (Some a) = refl

module _ {V : Type 0} where
  as-with : (b : ℕ) (t : Trie V) (es : List (ℕ × Trie V)) → as_children (entries.with_entry b t es)
      ≡ children_with b t (as_children es)
  as-with b t [] = refl
  as-with b t (e ∷ es) = elim (ltb b e.0) as
      (λ z. as_children (cond z ((b, t) ∷ e ∷ es) (cond (eqb e.0 b) ((b, t) ∷ es) (e ∷ entries.with_entry b t es)))
      ≡ cond z (child b t (child e.0 e.1 (as_children es)))
      (cond (eqb e.0 b) (child b t (as_children es)) (child e.0 e.1 (children_with b t (as_children es))))) [
        | true ↦ refl
        | false ↦ elim (eqb e.0 b) as (λ z. as_children (cond z ((b, t) ∷ es) (e ∷ entries.with_entry b t es))
            ≡ cond z (child b t (as_children es)) (child e.0 e.1 (children_with b t (as_children es)))) [
              | true ↦ refl
              | false ↦ ap (child e.0 e.1) (as-with b t es)
            ]
      ]

  pub with_child-is : (p : List ℕ) (v : Option V) (w w' b : ℕ) (t : Trie V) (es es' : List (ℕ × Trie V))
      → w' ≡ widened_capacity (length es) w → es' ≡ entries.with_entry b t es
      → node p v w' (as_children es') ≡ with_child b t (node p v w (as_children es))
  with_child-is p v w w' b t es es' ew ee = ap (λ z. node p v z (as_children es')) (ew
      ∙ ap (λ n. widened_capacity n w) (sym (edges_of-length es)))
      ∙ ap (node p v (widened_capacity (length (edges_of (as_children es))) w)) (ap as_children ee ∙ as-with b t es)
