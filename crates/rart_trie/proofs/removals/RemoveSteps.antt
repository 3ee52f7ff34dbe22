-- What a removal leaves at one node, as the code makes it, is what `trie_remove` says.
use Rattle.std.proofs.Common.{◌≡◌, ◌≢◌, ℕ, suc, ◌+◌, ◌<◌, ◌==◌, ◌&&◌, ⊎_elim, true, false, Bool, List, [], ◌∷◌, length}
use Rattle.std.proofs.Common.{Option, Some, None, refl, arith, sym, ap, ◌∙◌, if◌then◌else◌}
use Rattle.std.specs.Prelude.{slice_get}
use Rattle.std.proofs.lemmas.Bool.Decides.{nat_tests}
use Rattle.rart_keys.specs.ByteStrings.{strip_prefix}
use Rattle.rart_keys.proofs.strings.ByteOrder.{is_equal, is_greater, eq-yes, eq-no}
use Rattle.rart_parts.specs.Entries.{child_at, replaced_at}
use Rattle.rart_parts.specs.Entries as entries
use Rattle.rart_trie.specs.edits.Deletion.{needs_merge, merged_child, merged_if_needed, remaining_node, without_child}
use Rattle.rart_trie.specs.edits.Deletion.{is_end, is_leaf_at}
use Rattle.rart_trie.specs.shapes.Shape.{capacity_of}
use Rattle.rart_trie.specs.tries.Trie.{Trie, node, Children, child, edges_of, IsCanonical, AreCanonical}
use Rattle.rart_trie.specs.tries.Trie.{collapsed_node, removed_after, child_if, trie_remove, remove_child}
use Rattle.rart_trie.specs.tries.TrieCode.{as_children}
use Rattle.rart_trie.specs.storages.Capacities.{shrunk_capacity}
use Rattle.rart_trie.proofs.storages.ChildLemmas.{edges_of-length, replaced-length, found, at_first, after_first}
use Rattle.rart_trie.proofs.storages.DeletionLemmas.{length-without_byte}
use Rattle.rart_trie.proofs.edits.JoinLemmas.{without-some}
use Rattle.rart_trie.proofs.tries.RestLemmas.{Follows}

-- one child fewer keeps the capacity that the number of children fixes
pub shrunk-capacity : (n : ℕ) → shrunk_capacity n (capacity_of (n + 1)) ≡ capacity_of n
shrunk-capacity n = grind (arith, nat_tests)

module _ {V : Type 0} where
  -- what a removal does at a node, where the key ends or continues
  removed-ended : (r p : List ℕ) (v : Option V) (cs : Children V) (f : ℕ → List ℕ → Children V) → None ≡ slice_get r 0
      → removed_after (Some r) p v cs f ≡ collapsed_node p None cs
  removed-ended [] p v cs f h = refl
  removed-ended (b ∷ r) p v cs f h = absurd (cc)

  removed-followed : (r p : List ℕ) (b : ℕ) (v : Option V) (cs : Children V) (f : ℕ → List ℕ → Children V)
      → Some b ≡ slice_get r 0 → removed_after (Some r) p v cs f ≡ collapsed_node p v (f b r)
  removed-followed [] p b v cs f h = absurd (cc)
  removed-followed (c ∷ r) p b v cs f h = let same : b ≡ c = cc in rw same refl

  trie_remove-followed : (p k r : List ℕ) (b : ℕ) (v : Option V) (w : ℕ) (cs : Children V) → Some r ≡ strip_prefix p k
      → Some b ≡ slice_get r 0 → trie_remove k (node p v w cs) ≡ collapsed_node p v (remove_child b r cs)
  trie_remove-followed p k r b v w cs e h = ap (λ o. removed_after o p v cs (λ b r. remove_child b r cs)) (sym e)
      ∙ removed-followed r p b v cs (λ b r. remove_child b r cs) h

  -- the key ends at an inner node
  collapsed-joined : (p : List ℕ) (v : Option V) (w : ℕ) (es : List (ℕ × Trie V))
      → IsCanonical (node p v w (as_children es)) → 0 < length es
      → Some (merged_if_needed (node p None w (as_children es))) ≡ collapsed_node p None (as_children es)
  collapsed-joined p v w [] c l = absurd (omega arith)
  collapsed-joined p v w ((b, node q u m ds) ∷ []) c l = refl
  collapsed-joined p v w (e ∷ f ∷ es) c l = ap (λ z. Some (node p None z (as_children (e ∷ f ∷ es)))) c.1

  inner-children : (p k r : List ℕ) (v : Option V) (w : ℕ) (es : List (ℕ × Trie V)) → Some r ≡ strip_prefix p k
      → None ≡ slice_get r 0 → is_leaf_at k (node p v w (as_children es)) ≡ false → 0 < length es
  inner-children p k [] v w [] e h s = let z = ap is_end e in absurd (cc (s, z))
  inner-children p k (b ∷ r) v w [] e h s = absurd (cc)
  inner-children p k r v w (x ∷ es) e h s = omega arith

  pub value-removed : (p k r : List ℕ) (v : Option V) (w : ℕ) (es : List (ℕ × Trie V))
      → IsCanonical (node p v w (as_children es)) → Some r ≡ strip_prefix p k → None ≡ slice_get r 0
      → is_leaf_at k (node p v w (as_children es)) ≡ false
      → Some (merged_if_needed (node p None w (as_children es))) ≡ trie_remove k (node p v w (as_children es))
  value-removed p k r v w es c e h s = collapsed-joined p v w es c (inner-children p k r v w es e h s)
      ∙ sym (ap (λ o. removed_after o p v (as_children es) (λ b r. remove_child b r (as_children es))) (sym e)
      ∙ removed-ended r p v (as_children es) (λ b r. remove_child b r (as_children es)) h)

  -- removal below a child
  remove_child-kept : (b low : ℕ) (k : List ℕ) (t t' : Trie V) (es : List (ℕ × Trie V))
      → AreCanonical low (as_children es) → Some t ≡ child_at b es → Some t' ≡ trie_remove k t
      → remove_child b k (as_children es) ≡ as_children (replaced_at b t' es)
  remove_child-kept b low k t t' [] w s r = absurd (cc)
  remove_child-kept b low k t t' (e ∷ es) w s r = elim (found b low t e es w s) [
    | at_first h q ↦ rw (is_equal b e.0 h, eq-yes e.0 b (sym h), h)
        (ap (λ o. child_if e.0 o (as_children es)) (ap (trie_remove k) (sym q) ∙ sym r))
    | after_first h q ↦ rw (is_greater b e.0 h, eq-no e.0 b (λ z. omega arith))
        (ap (child e.0 e.1) (remove_child-kept b (suc e.0) k t t' es w.3 q r))
  ]

  remove_child-removed : (b low : ℕ) (k : List ℕ) (t : Trie V) (es : List (ℕ × Trie V)) → AreCanonical low
      (as_children es)
      → Some t ≡ child_at b es → None ≡ trie_remove k t
      → remove_child b k (as_children es) ≡ as_children (entries.without_byte b es)
  remove_child-removed b low k t [] w s r = absurd (cc)
  remove_child-removed b low k t (e ∷ es) w s r = elim (found b low t e es w s) [
    | at_first h q ↦ rw (is_equal b e.0 h, eq-yes e.0 b (sym h))
        (ap (λ o. child_if e.0 o (as_children es)) (ap (trie_remove k) (sym q) ∙ sym r))
    | after_first h q ↦ rw (is_greater b e.0 h, eq-no e.0 b (λ z. omega arith))
        (ap (child e.0 e.1) (remove_child-removed b (suc e.0) k t es w.3 q r))
  ]

  pub collapsed-same : (p : List ℕ) (v : Option V) (w : ℕ) (es fs : List (ℕ × Trie V))
      → IsCanonical (node p v w (as_children es)) → length fs ≡ length es → Some (node p v w (as_children fs))
      ≡ collapsed_node p v (as_children fs)
  collapsed-same p (Some v) w es fs c l = ap (λ z. Some (node p (Some v) z (as_children fs))) (c.1
      ∙ ap capacity_of (edges_of-length es ∙ sym l ∙ sym (edges_of-length fs)))
  collapsed-same p None w [] fs c l = absurd (⊎_elim (λ h. cc) (λ h. h) c.0)
  collapsed-same p None w (e ∷ []) fs c l = absurd (⊎_elim (λ h. cc) (λ h. h) c.0)
  collapsed-same p None w (e ∷ f ∷ es) [] c l = absurd (omega arith)
  collapsed-same p None w (e ∷ f ∷ es) (g ∷ []) c l = absurd (omega arith)
  collapsed-same p None w (e ∷ f ∷ es) (g ∷ h ∷ fs) c l
      = ap (λ z. Some (node p None z (as_children (g ∷ h ∷ fs)))) (c.1
      ∙ ap capacity_of (edges_of-length (e ∷ f ∷ es) ∙ sym l ∙ sym (edges_of-length (g ∷ h ∷ fs))))

  -- removal of a leaf
  capacity-less : (p : List ℕ) (v : Option V) (w : ℕ) (es fs : List (ℕ × Trie V))
      → IsCanonical (node p v w (as_children es)) → length fs + 1 ≡ length es
      → shrunk_capacity (length (edges_of (as_children fs))) w ≡ capacity_of (length (edges_of (as_children fs)))
  capacity-less p v w es fs c l = ap (shrunk_capacity (length (edges_of (as_children fs)))) (c.1
      ∙ ap capacity_of (edges_of-length es ∙ sym l ∙ ap (λ n. n + 1) (sym (edges_of-length fs))))
      ∙ shrunk-capacity (length (edges_of (as_children fs)))

  no_join : (z : Bool) (p : List ℕ) (v : V) (fs : List (ℕ × Trie V)) (m : ℕ)
      → (if z && needs_merge (Some v) (as_children fs) then merged_child p (as_children fs)
      else node p (Some v) m (as_children fs)) ≡ node p (Some v) m (as_children fs)
  no_join true p v fs m = refl
  no_join false p v fs m = refl

  many_stay : (z : Bool) (p : List ℕ) (g h : ℕ × Trie V) (fs : List (ℕ × Trie V)) (m : ℕ)
      → (if z && needs_merge None (as_children (g ∷ h ∷ fs)) then merged_child p (as_children (g ∷ h ∷ fs))
      else node p None m (as_children (g ∷ h ∷ fs))) ≡ node p None m (as_children (g ∷ h ∷ fs))
  many_stay true p g h fs m = refl
  many_stay false p g h fs m = refl

  pub collapsed-less : (p : List ℕ) (v : Option V) (w : ℕ) (es fs : List (ℕ × Trie V))
      → IsCanonical (node p v w (as_children es)) → length fs + 1 ≡ length es
      → Some (remaining_node p v w (as_children fs)) ≡ collapsed_node p v (as_children fs)
  collapsed-less p (Some v) w es fs c l = ap Some
      (no_join (w == 4) p v fs (shrunk_capacity (length (edges_of (as_children fs))) w))
      ∙ ap (λ z. Some (node p (Some v) z (as_children fs))) (capacity-less p (Some v) w es fs c l)
  collapsed-less p None w [] fs c l = absurd (omega (arith, l))
  collapsed-less p None w (e ∷ []) fs c l = absurd (⊎_elim (λ h. cc) (λ h. h) c.0)
  collapsed-less p None w (e ∷ f ∷ es) [] c l = absurd (omega (arith, l))
  collapsed-less p None w (e ∷ f ∷ es) ((b, node q u m ds) ∷ []) c l =
      let four : w ≡ 4 = c.1 ∙ ap capacity_of (edges_of-length (e ∷ f ∷ es) ∙ sym l) in
      rw four refl
  collapsed-less p None w (e ∷ f ∷ es) (g ∷ h ∷ fs) c l
      = ap Some (many_stay (w == 4) p g h fs (shrunk_capacity (length (edges_of (as_children (g ∷ h ∷ fs)))) w))
      ∙ ap (λ z. Some (node p None z (as_children (g ∷ h ∷ fs)))) (capacity-less p None w (e ∷ f ∷ es) (g ∷ h ∷ fs) c l)

  -- a node with other storage of the same content
  pub same-node : (p : List ℕ) {p' : List ℕ} (v : Option V) {v' : Option V} (w w' : ℕ) (es es' : List (ℕ × Trie V))
      → w' ≡ w → es' ≡ es → v' ≡ v → p' ≡ p → node p' v' w' (as_children es') ≡ node p v w (as_children es)
  same-node p v w w' es es' ew ee ev ep = rw (ew, ee, ev, ep) refl

module _ {V : Type 0} {p k r : List ℕ} {v : Option V} {w b : ℕ} {t : Trie V} {es : List (ℕ × Trie V)}
    (f : Follows p k r v w b t es) where
  pub removed-below : (w' : ℕ) (t' : Trie V) (es' : List (ℕ × Trie V)) → Some t' ≡ trie_remove r t → w' ≡ w
      → es' ≡ replaced_at b t' es → Some (node p v w' (as_children es')) ≡ trie_remove k (node p v w (as_children es))
  removed-below w' t' es' h ew ee =
      ap (λ z. Some (node p v z (as_children es'))) ew
      ∙ collapsed-same p v w es es' f.canonical (ap length ee ∙ replaced-length b t' es)
      ∙ ap (collapsed_node p v) (ap as_children ee ∙ sym (remove_child-kept b 0 r t t' es f.canonical.2 f.there h))
      ∙ sym (trie_remove-followed p k r b v w (as_children es) f.left f.first)

  pub removed-leaf : None ≡ trie_remove r t
      → Some (without_child b (node p v w (as_children es))) ≡ trie_remove k (node p v w (as_children es))
  removed-leaf h =
      let there : child_at b es ≢ None = λ z. let h : Some t ≡ None = f.there ∙ z in absurd (cc) in
      ap Some (without-some p v w b es there)
      ∙ collapsed-less p v w es (entries.without_byte b es) f.canonical (length-without_byte b es there)
      ∙ ap (collapsed_node p v) (sym (remove_child-removed b 0 r t es f.canonical.2 f.there h))
      ∙ sym (trie_remove-followed p k r b v w (as_children es) f.left f.first)
