-- A leaf that holds a key: how code recognizes it, and what a removal does with it.
use Rattle.std.proofs.Common.{◌≡◌, ◌≢◌, ℕ, ◌<◌, ◌≤◌, ◌==◌, ⊎_elim, true, false, List, [], ◌∷◌, length, Option, Some}
use Rattle.std.proofs.Common.{None, refl, arith, sym, ap, ◌∙◌}
use Rattle.rart_keys.specs.ByteStrings.{strip_prefix}
use Rattle.rart_keys.proofs.strings.ByteOrder.{eq-no}
use Rattle.rart_trie.specs.edits.Deletion.{is_end, is_leaf_at}
use Rattle.rart_trie.specs.tries.Trie.{Trie, node, Children, no_children, child, edges_of, value_of, children_in}
use Rattle.rart_trie.specs.tries.Trie.{IsCanonical, answer_after, trie_lookup, child_lookup, removed_after}
use Rattle.rart_trie.specs.tries.Trie.{trie_remove, remove_child}
use Rattle.rart_trie.specs.tries.TrieCode.{as_children}

end-empty : (r : List ℕ) → is_end (Some r) ≡ (length r == 0)
end-empty [] = refl
end-empty (b ∷ r) = sym (eq-no (length (b ∷ r)) 0 (λ e. omega (arith, e)))

module _ {V : Type 0} where
  -- whether a node is such a leaf, as the code tests it
  pub leaf_at-inner : (p k : List ℕ) (v : Option V) (w : ℕ) (es : List (ℕ × Trie V)) → 0 < length es
      → is_leaf_at k (node p v w (as_children es)) ≡ false
  leaf_at-inner p k v w [] l = absurd (omega arith)
  leaf_at-inner p k v w (e ∷ es) l = refl

  pub leaf_at-left : (p k : List ℕ) (v : Option V) (w : ℕ) (cs : Children V) → None ≡ strip_prefix p k
      → is_leaf_at k (node p v w cs) ≡ false
  leaf_at-left p k v w no_children e = ap is_end (sym e)
  leaf_at-left p k v w (child b t cs) e = refl

  pub leaf_at-rest : (p k r : List ℕ) (v : Option V) (w : ℕ) (es : List (ℕ × Trie V)) → length es ≤ 0
      → Some r ≡ strip_prefix p k → is_leaf_at k (node p v w (as_children es)) ≡ (length r == 0)
  leaf_at-rest p k r v w [] l e = ap is_end (sym e) ∙ end-empty r
  leaf_at-rest p k r v w (x ∷ es) l e = absurd (omega arith)

  -- it is removed, and its value is the answer
  removed : (o : Option (List ℕ)) (p : List ℕ) (v : Option V) (f : ℕ → List ℕ → Children V) → is_end o ≡ true
      → None ≡ removed_after o p v no_children f
  removed None p v f h = absurd (cc)
  removed (Some []) p v f h = refl
  removed (Some (b ∷ k)) p v f h = absurd (cc)

  pub leaf-removed : (k : List ℕ) (t : Trie V) → is_leaf_at k t ≡ true → None ≡ trie_remove k t
  leaf-removed k (node p v w no_children) h = removed (strip_prefix p k) p v (λ b r. remove_child b r no_children) h
  leaf-removed k (node p v w (child b t cs)) h = absurd (cc)

  pub leaf-edges : (k : List ℕ) (t : Trie V) → is_leaf_at k t ≡ true → edges_of (children_in t) ≡ []
  leaf-edges k (node p v w no_children) h = refl
  leaf-edges k (node p v w (child b t cs)) h = absurd (cc)

  value-after : (o : Option (List ℕ)) (v : Option V) (f : ℕ → List ℕ → Option V) → is_end o ≡ true
      → answer_after o v f ≡ v
  value-after None v f h = absurd (cc)
  value-after (Some []) v f h = refl
  value-after (Some (b ∷ k)) v f h = absurd (cc)

  pub leaf-value : (k : List ℕ) (t : Trie V) → is_leaf_at k t ≡ true → trie_lookup k t ≡ value_of t
  leaf-value k (node p v w no_children) h = value-after (strip_prefix p k) v (λ b r. child_lookup b r no_children) h
  leaf-value k (node p v w (child b t cs)) h = absurd (cc)

  pub leaf-some : (k : List ℕ) (t : Trie V) → IsCanonical t → is_leaf_at k t ≡ true → value_of t ≢ None
  leaf-some k (node p (Some v) w no_children) c h e = cc
  leaf-some k (node p None w no_children) c h e = ⊎_elim (λ h. cc) (λ h. h) c.0
  leaf-some k (node p v w (child b t cs)) c h e = cc

  pub no-edges : (es : List (ℕ × Trie V)) → edges_of (as_children es) ≡ [] → es ≡ []
  no-edges [] h = refl
  no-edges (e ∷ es) h = absurd (cc)
