-- A change of one child in its place, by the entries of its node's storage.
use Rattle.std.proofs.Common.{◌≡◌, ℕ, cond, eqb, true, false, List, [], ◌∷◌, Option, Some, refl, sym, ap, ◌∙◌}
use Rattle.rart_parts.specs.Entries.{child_at, replaced_at}
use Rattle.rart_trie.specs.edits.ChildChanges.{children_replaced, with_child_replaced, children_with_value}
use Rattle.rart_trie.specs.edits.ChildChanges.{with_child_value}
use Rattle.rart_trie.specs.edits.NodeEdits.{stored_node, with_value}
use Rattle.rart_trie.specs.declared.node.storage.Kind.{Kind}
use Rattle.rart_trie.specs.storages.Stored.{child_entries, storage_capacity, stored_prefix, stored_value}
use Rattle.rart_trie.specs.storages.Stored.{StoresSame, StoresSo}
use Rattle.rart_trie.specs.tries.Trie.{Trie, node, child, child_in}
use Rattle.rart_trie.specs.tries.TrieCode.{as_children}
use Rattle.rart_trie.proofs.removals.RemoveSteps.{same-node}
use Rattle.rart_trie.proofs.storages.ChildLemmas.{some-equal}
use Rattle.rart_trie.proofs.tries.Descents.{child_of-entries}

module _ {V : Type 0} where
  as-replaced : (b : ℕ) (t : Trie V) (es : List (ℕ × Trie V))
      → as_children (replaced_at b t es) ≡ children_replaced b t (as_children es)
  as-replaced b t [] = refl
  as-replaced b t (e ∷ es) = elim (eqb e.0 b) as (λ z. as_children (cond z ((b, t) ∷ es) (e ∷ replaced_at b t es))
      ≡ cond z (child b t (as_children es)) (child e.0 e.1 (children_replaced b t (as_children es)))) [
        | true ↦ refl
        | false ↦ ap (child e.0 e.1) (as-replaced b t es)
      ]

  as-with_value : (b : ℕ) (x : V) (t : Trie V) (es : List (ℕ × Trie V)) → Some t ≡ child_at b es
      → as_children (replaced_at b (with_value x t) es) ≡ children_with_value b x (as_children es)
  as-with_value b x t [] s = refl
  as-with_value b x t (e ∷ es) s = elim (eqb e.0 b) as (λ z. Some t ≡ cond z (Some e.1) (child_at b es)
      → as_children (cond z ((b, with_value x t) ∷ es) (e ∷ replaced_at b (with_value x t) es))
      ≡ cond z (child b (with_value x e.1) (as_children es))
      (child e.0 e.1 (children_with_value b x (as_children es)))) [
        | true ↦ λ h. ap (λ u. child b (with_value x u) (as_children es)) (some-equal t e.1 h)
        | false ↦ λ h. ap (child e.0 e.1) (as-with_value b x t es h)
      ] s

  pub with_child_replaced-is : (p : List ℕ) (v : Option V) (w w' b : ℕ) (t : Trie V) (es es' : List (ℕ × Trie V))
      → w' ≡ w → es' ≡ replaced_at b t es → node p v w' (as_children es')
      ≡ with_child_replaced b t (node p v w (as_children es))
  with_child_replaced-is p v w w' b t es es' ew ee = ap (λ z. node p v z (as_children es')) ew
      ∙ ap (node p v w) (ap as_children ee ∙ as-replaced b t es)

  pub with_child_value-is : (p : List ℕ) (v : Option V) (w w' b : ℕ) (x : V) (t t' : Trie V)
      (es es' : List (ℕ × Trie V)) → Some t ≡ child_at b es → t' ≡ with_value x t → w' ≡ w → es' ≡ replaced_at b t' es
      → node p v w' (as_children es') ≡ with_child_value b x (node p v w (as_children es))
  with_child_value-is p v w w' b x t t' es es' at et ew ee = ap (λ z. node p v z (as_children es')) ew
      ∙ ap (node p v w) (ap as_children (ee ∙ ap (λ z. replaced_at b z es) et) ∙ as-with_value b x t es at)

  -- a node over a storage s: the child at a byte, and what the node ends as with t in the place of s
  module _ {P : Type 0} (bytes : P → List ℕ) (n : Trie V) (s : Kind P V (Trie V))
      (is : stored_node bytes s ≡ n) where
    pub child-stored : (b : ℕ) → child_at b (child_entries s) ≡ child_in b n
    child-stored b = sym (child_of-entries b (child_entries s)) ∙ ap (child_in b) is

    pub storage-child_replaced : (b : ℕ) (c : Trie V) (t : Kind P V (Trie V))
        → StoresSo s (replaced_at b c (child_entries s)) t → stored_node bytes t ≡ with_child_replaced b c n
    storage-child_replaced b c t h =
        ap (λ p. node (bytes p) (stored_value t) (storage_capacity t) (as_children (child_entries t))) h.3
        ∙ ap (λ v. node (bytes (stored_prefix s)) v (storage_capacity t) (as_children (child_entries t))) h.2
        ∙ with_child_replaced-is (bytes (stored_prefix s)) (stored_value s) (storage_capacity s) (storage_capacity t)
        b c (child_entries s) (child_entries t) h.0 h.1 ∙ ap (with_child_replaced b c) is

    pub storage-same : (t : Kind P V (Trie V)) → StoresSame s t → stored_node bytes t ≡ n
    storage-same t h = same-node (bytes (stored_prefix s)) (stored_value s) (storage_capacity s) (storage_capacity t)
        (child_entries s) (child_entries t) h.0 h.1 h.2 (ap bytes h.3) ∙ is
