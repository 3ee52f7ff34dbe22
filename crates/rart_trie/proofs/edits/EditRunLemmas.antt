-- However a tree was built: its nodes are the shape of its keys.
use Rattle.std.proofs.Common.{◌≡◌, ℕ, ⊎_elim, inl, suc, List, [], ◌∷◌, refl, sym, ap, ◌∙◌, Option, Some, None}
use Rattle.rart_keys.specs.SortedMap.{keys_of}
use Rattle.rart_trie.specs.shapes.Shape.{HasShape}
use Rattle.rart_keys.specs.ByteStrings.{strip_prefix}
use Rattle.rart_trie.specs.tries.Trie.{Trie, node, Children, no_children, child, trie_lookup, child_lookup}
use Rattle.rart_trie.specs.tries.Trie.{answer_after, collapsed_node, removed_after, child_if, trie_remove}
use Rattle.rart_trie.specs.tries.Trie.{remove_child, IsCanonical, AreCanonical}
use Rattle.rart_trie.specs.tries.Tree.{tree_pairs, tree_nodes, IsCanonicalTree}
use Rattle.rart_trie.specs.edits.EditRuns.{Edit, puts, removes, edit_map, edit_tree, run_map, run_tree}
use Rattle.rart_keys.proofs.strings.ByteOrder.{order, is_less, is_equal, is_greater}
use Rattle.rart_trie.proofs.shapes.ShapeLemmas.{nodes_of-shape}
use Rattle.rart_trie.proofs.edits.PutLemmas.{canonical-put, pairs_of-put}
use Rattle.rart_trie.proofs.removals.RemoveLemmas.{canonical-removed, pairs_of-removed}
use Rattle.std.proofs.lemmas.List.{append-nil}

module _ {V : Type 0} where
  edit-canonical : (e : Edit V) (t : Option (Trie V)) → IsCanonicalTree t → IsCanonicalTree (edit_tree e t)
  edit-canonical (puts k v) None w = (inl refl, refl, tt)
  edit-canonical (puts k v) (Some t) w = canonical-put k v t w
  edit-canonical (removes k) None w = tt
  edit-canonical (removes k) (Some t) w = canonical-removed k t w

  edit-pairs_of : (e : Edit V) (t : Option (Trie V)) → IsCanonicalTree t
      → tree_pairs (edit_tree e t) ≡ edit_map e (tree_pairs t)
  edit-pairs_of (puts k v) None w = ap (λ z. (z, v) ∷ []) (append-nil k)
  edit-pairs_of (puts k v) (Some t) w = pairs_of-put k v t w
  edit-pairs_of (removes k) None w = refl
  edit-pairs_of (removes k) (Some t) w = pairs_of-removed k t w

  pub run-canonical : (es : List (Edit V)) (t : Option (Trie V)) → IsCanonicalTree t → IsCanonicalTree (run_tree es t)
  run-canonical [] t w = w
  run-canonical (e ∷ es) t w = run-canonical es (edit_tree e t) (edit-canonical e t w)

  pub run-pairs_of : (es : List (Edit V)) (t : Option (Trie V)) → IsCanonicalTree t
      → tree_pairs (run_tree es t) ≡ run_map es (tree_pairs t)
  run-pairs_of [] t w = refl
  run-pairs_of (e ∷ es) t w = run-pairs_of es (edit_tree e t) (edit-canonical e t w)
      ∙ ap (run_map es) (edit-pairs_of e t w)

  pub tree-shape : (t : Option (Trie V)) → IsCanonicalTree t → HasShape (keys_of (tree_pairs t)) (tree_nodes t)
  tree-shape None w = record { ascending = tt; each = λ p. refl }
  tree-shape (Some t) w = nodes_of-shape t w

  pub run-shape : (es : List (Edit V)) → HasShape (keys_of (run_map es [])) (tree_nodes (run_tree es None))
  run-shape es = let h = tree-shape (run_tree es None) (run-canonical es None tt) in rw (run-pairs_of es None tt) at h

  -- a key that isn't there is removed by doing nothing
  collapsed-bytes_eq : (p : List ℕ) (v : Option V) (n : ℕ) (cs : Children V) → IsCanonical (node p v n cs)
      → collapsed_node p v cs ≡ Some (node p v n cs)
  collapsed-bytes_eq p None n no_children w = absurd (⊎_elim (λ h. cc) (λ h. h) w.0)
  collapsed-bytes_eq p None n (child b (node q u m ds) no_children) w = absurd (⊎_elim (λ h. cc) (λ h. h) w.0)
  collapsed-bytes_eq p None n (child b t (child c u cs)) w
      = ap (λ z. Some (node p None z (child b t (child c u cs)))) (sym w.1)
  collapsed-bytes_eq p (Some x) n cs w = ap (λ z. Some (node p (Some x) z cs)) (sym w.1)

  mutual
    pub remove-absent : (k : List ℕ) (t : Trie V) → IsCanonical t → trie_lookup k t ≡ None → trie_remove k t ≡ Some t
    remove-absent k (node p v n cs) w h = elim (strip_prefix p k)
        as (λ o. answer_after o v (λ b r. child_lookup b r cs) ≡ None
        → removed_after o p v cs (λ b r. remove_child b r cs) ≡ Some (node p v n cs)) [
          | None ↦ λ z. collapsed-bytes_eq p v n cs w
          | Some r ↦ elim r as (λ r. answer_after (Some r) v (λ b r. child_lookup b r cs) ≡ None
              → removed_after (Some r) p v cs (λ b r. remove_child b r cs) ≡ Some (node p v n cs)) [
                | [] ↦ λ z. ap (λ o. collapsed_node p o cs) (sym z) ∙ collapsed-bytes_eq p v n cs w
                | b ∷ r ↦ λ z. ap (collapsed_node p v) (remove-absent_child b (b ∷ r) 0 cs w.2 z)
                    ∙ collapsed-bytes_eq p v n cs w
              ]
        ] h

    remove-absent_child : (b : ℕ) (k : List ℕ) (low : ℕ) (cs : Children V) → AreCanonical low cs
        → child_lookup b k cs ≡ None → remove_child b k cs ≡ cs
    remove-absent_child b k low no_children w h = refl
    remove-absent_child b k low (child c t cs) w h = ⊎_elim (λ g. rw (is_less b c g) refl)
        (⊎_elim (λ g. let z = rw (is_equal b c g) at h in
        rw (is_equal b c g) (ap (λ o. child_if c o cs) (remove-absent k t w.2 z)))
        (λ g. let z = rw (is_greater b c g) at h in
        rw (is_greater b c g) (ap (child c t) (remove-absent_child b k (suc c) cs w.3 z)))) (order b c)
