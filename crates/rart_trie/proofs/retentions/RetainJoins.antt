-- A node merged with its only child if it has no value, and a node after a walk that retains pairs.
use Rattle.std.proofs.Common.{◌≡◌, ℕ, ◌<◌, inl, inr, Bool, true, false, List, [], ◌∷◌, ◌++◌, length, refl, sym, ap, ◌∙◌}
use Rattle.std.proofs.Common.{arith, Option, Some, None, is_some}
use Rattle.std.proofs.lemmas.List.{append-nil}
use Rattle.rart_trie.specs.declared.node.edits.retain.Retention.{Retention}
use Rattle.rart_trie.specs.declared.node.edits.retain.Retention.TheVariants.{Done, Rejected, Refused}
use Rattle.rart_trie.specs.declared.node.storage.Kind.{Kind}
use Rattle.rart_trie.specs.edits.Deletion.{needs_merge, merged_if_needed}
use Rattle.rart_trie.specs.edits.RetainSteps.{AppliesChild, KeepsFirst, finished_as, finished_node}
use Rattle.rart_trie.specs.shapes.Shape.{capacity_of}
use Rattle.rart_trie.specs.storages.Stored.{stored_prefix, stored_value}
use Rattle.rart_trie.specs.tries.PrefixLaws.{prefix-twice}
use Rattle.rart_trie.specs.tries.Trie.{Trie, node, Children, no_children, AreCanonical, IsCanonical}
use Rattle.rart_trie.specs.tries.Trie.{children_in, children_pairs, own_pair, pairs_of, prefix_of, with_prefix}
use Rattle.rart_trie.specs.tries.TrieCode.{as_children}
use Rattle.rart_trie.proofs.retentions.RetainWalkLemmas.{IsOneLeaf}
use Rattle.rart_trie.proofs.storages.ChildLemmas.{edges_of-length}

starts-append : (p q : List ℕ) → KeepsFirst p (p ++ q)
starts-append [] q b h = absurd h
starts-append (x ∷ p) q b h = h

module _ {V : Type 0} where
  -- a node merged with its only child, if it has no value, has its pairs
  pub joined-pairs : (p : List ℕ) (v : Option V) (n : ℕ) (es : List (ℕ × Trie V))
      → pairs_of (merged_if_needed (node p v n (as_children es))) ≡ pairs_of (node p v n (as_children es))
  joined-pairs p (Some v) n es = refl
  joined-pairs p None n [] = refl
  joined-pairs p None n ((b, node q v m cs) ∷ []) = sym (prefix-twice p q (own_pair v ++ children_pairs cs))
      ∙ ap (with_prefix p) (sym (append-nil (with_prefix q (own_pair v ++ children_pairs cs))))
  joined-pairs p None n (e ∷ f ∷ es) = refl

  pub joined-first : (p : List ℕ) (v : Option V) (n : ℕ) (es : List (ℕ × Trie V))
      → KeepsFirst p (prefix_of (merged_if_needed (node p v n (as_children es))))
  joined-first p (Some v) n es b h = h
  joined-first p None n [] b h = h
  joined-first p None n ((c, t) ∷ []) b h = starts-append p (prefix_of t) b h
  joined-first p None n (e ∷ f ∷ es) b h = h

  -- it is canonical if it has a value or children
  pub joined-canonical : (p : List ℕ) (v : Option V) (n : ℕ) (es : List (ℕ × Trie V)) → n ≡ capacity_of (length es)
      → (is_some v ≡ false → 0 < length es) → AreCanonical 0 (as_children es)
      → IsCanonical (merged_if_needed (node p v n (as_children es)))
  joined-canonical p (Some v) n es w l c = (inl refl, w ∙ ap capacity_of (sym (edges_of-length es)), c)
  joined-canonical p None n [] w l c = absurd (omega (arith, l refl))
  joined-canonical p None n ((b, node q v m cs) ∷ []) w l c = c.2
  joined-canonical p None n (e ∷ f ∷ es) w l c = (inr tt, w ∙ ap capacity_of (sym (edges_of-length (e ∷ f ∷ es))), c)

  -- as the code finishes it
  pub finished-kept : (keeps : Bool) (t : Trie V) → keeps ≡ true → merged_if_needed t ≡ finished_node keeps t
  finished-kept keeps t h = rw h refl

  pub finished-removed : (keeps : Bool) (p : List ℕ) (v : Option V) (n : ℕ) (es : List (ℕ × Trie V)) → keeps ≡ false
      → (length es ≡ 0 → ⊥)
      → merged_if_needed (node p None n (as_children es)) ≡ finished_node keeps (node p v n (as_children es))
  finished-removed keeps p v n [] h l = absurd (l refl)
  finished-removed keeps p v n (e ∷ es) h l = rw h refl

  pub outcome-kept : (keeps : Bool) (walk : Retention) (cs : Children V) → keeps ≡ true
      → walk ≡ finished_as keeps walk cs
  outcome-kept keeps walk cs h = rw h refl

  pub outcome-removed : (keeps : Bool) (walk : Retention) (es : List (ℕ × Trie V)) → keeps ≡ false
      → (length es ≡ 0 → ⊥) → walk ≡ finished_as keeps walk (as_children es)
  outcome-removed keeps walk [] h l = absurd (l refl)
  outcome-removed keeps walk (e ∷ es) h l = rw h refl

  pub only-child-capacity : (n : ℕ) (es : List (ℕ × Trie V)) → n ≡ capacity_of (length es)
      → needs_merge {V = V} None (as_children es) ≡ true → n ≡ 4
  only-child-capacity n [] w h = absurd (cc)
  only-child-capacity n (e ∷ []) w h = w
  only-child-capacity n (e ∷ f ∷ es) w h = absurd (cc)

  pub joined-leaf : (p : List ℕ) (n : ℕ) (es : List (ℕ × Trie V)) → IsOneLeaf es
      → children_in (merged_if_needed (node p None n (as_children es))) ≡ no_children
  joined-leaf p n es h = rw h.one h.childless

-- what is done with a child keeps the value of its node
pub applied-value : {P V : Type 0} (h : Bool) (b : ℕ) (below walk : Retention) (s s' : Kind P V (Trie V))
    → AppliesChild h b below walk s s' → stored_value s' ≡ stored_value s
applied-value h b Done Done s s' a = ap stored_value a
applied-value h b Done Rejected s s' a = absurd a
applied-value h b Done Refused s s' a = absurd a
applied-value h b Rejected Done s s' a = a.3
applied-value h b Rejected Rejected s s' a = ap stored_value a.0
applied-value h b Rejected Refused s s' a = ap stored_value a.0
applied-value h b Refused Done s s' a = absurd a
applied-value h b Refused Rejected s s' a = absurd a
applied-value h b Refused Refused s s' a = ap stored_value a

-- what is done with a child keeps the prefix of its node
pub applied-prefix : {P V : Type 0} (h : Bool) (b : ℕ) (below walk : Retention) (s s' : Kind P V (Trie V))
    → AppliesChild h b below walk s s' → stored_prefix s' ≡ stored_prefix s
applied-prefix h b Done Done s s' a = ap stored_prefix a
applied-prefix h b Done Rejected s s' a = absurd a
applied-prefix h b Done Refused s s' a = absurd a
applied-prefix h b Rejected Done s s' a = a.4
applied-prefix h b Rejected Rejected s s' a = ap stored_prefix a.0
applied-prefix h b Rejected Refused s s' a = ap stored_prefix a.0
applied-prefix h b Refused Done s s' a = absurd a
applied-prefix h b Refused Rejected s s' a = absurd a
applied-prefix h b Refused Refused s s' a = ap stored_prefix a
