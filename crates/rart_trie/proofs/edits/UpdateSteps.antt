-- What an update leaves at one node.
use Rattle.std.proofs.Common.{◌≡◌, ◌≢◌, ℕ, ⊎_elim, true, false, Bool, List, [], ◌∷◌, length, Option, Some, None, Result}
use Rattle.std.proofs.Common.{Ok, Err, is_some, option_and_then, refl, sym, ap, subst, ◌∙◌}
use Rattle.std.specs.Option.{unwrap_or}
use Rattle.std.specs.Prelude.{slice_get}
use Rattle.rart_keys.specs.ByteStrings.{strip_prefix}
use Rattle.rart_keys.proofs.strings.ByteOrder.{eq-yes, eq-no, equal_or_not}
use Rattle.rart_parts.specs.Entries.{child_at, replaced_at}
use Rattle.rart_parts.specs.declared.error.TreeError.{TreeError}
use Rattle.rart_parts.specs.declared.error.TreeError.TheVariants.{Memory, Full}
use Rattle.rart_trie.specs.declared.slot.Outcome.{Outcome}
use Rattle.rart_trie.specs.declared.slot.Outcome.TheVariants.{Absent, New, Kept, Replaced, Removed}
use Rattle.rart_trie.specs.declared.slot.SlotUpdate.{SlotUpdate}
use Rattle.rart_trie.specs.declared.slot.SlotUpdate.TheVariants.{Keep, Remove, Insert}
use Rattle.rart_trie.specs.declared.slot.UpdateError.{UpdateError}
use Rattle.rart_trie.specs.declared.slot.UpdateError.TheVariants.{Insert as Not_inserted, Remove as Not_removed}
use Rattle.rart_trie.specs.edits.Deletion.{JoinsWithin, children_without, is_end, is_leaf_at, without_child}
use Rattle.rart_trie.specs.edits.InsertAllocations.{put_allocation}
use Rattle.rart_trie.specs.tries.Trie.{Trie, node, no_children, child, child_of, children_in, edges_of, prefix_of}
use Rattle.rart_trie.specs.tries.Trie.{value_of, IsCanonical, trie_put, trie_remove}
use Rattle.rart_trie.specs.tries.TrieCode.{as_children}
use Rattle.rart_trie.specs.edits.TreeUpdates.{PutAllocates, EndsHere, EndsLeaf, EndsTree, RemovesLeaf, RefusesPut}
use Rattle.rart_trie.specs.edits.TreeUpdates.{node_holding, tree_left}
use Rattle.rart_trie.proofs.storages.ChildLemmas.{edges_of-length, replaced-length, some-equal}
use Rattle.rart_trie.proofs.edits.InsertLemmas.{put-below, child-put_back, record-child}
use Rattle.rart_trie.proofs.edits.LeafLemmas.{leaf-edges, leaf-removed}
use Rattle.rart_trie.proofs.edits.PutAllocationLemmas.{put_allocation-below}
use Rattle.rart_trie.proofs.removals.RemoveAllocationSteps.{remove_allocation-below, remove_allocation-leaf}
use Rattle.rart_trie.proofs.removals.RemoveSteps.{removed-below, removed-leaf, value-removed}
use Rattle.rart_trie.proofs.tries.RestLemmas.{Follows, trie_lookup-left, trie_put-ended}
use Rattle.rart_trie.proofs.tries.Descents.{child_of-entries, descend-left}

-- nothing is left of a key that ends
end-rest : (o : Option (List ℕ)) → is_end o ≡ true → Some [] ≡ o
end-rest None h = absurd (cc)
end-rest (Some []) h = refl
end-rest (Some (b ∷ k)) h = absurd (cc)

module _ {V : Type 0} where
  pub none-there : (w o : Option V) → is_some w ≡ is_some o → o ≡ None → w ≡ None
  none-there None o h e = refl
  none-there (Some x) o h e = let g = rw e at h in absurd (cc)

  pub some-stays : (w o : Option V) → is_some w ≡ is_some o → o ≢ None → w ≢ None
  some-stays w None h e = absurd (e refl)
  some-stays None (Some x) h e = absurd (cc)
  some-stays (Some y) (Some x) h e = λ z. cc

  -- an insertion that found no memory
  pub refuses-memory : (full : Bool) (k : List ℕ) (t : Option (Trie V)) (e : TreeError) → e ≡ Memory → full ≡ false
      → PutAllocates k t → RefusesPut full k t e
  refuses-memory full k t Memory h f a = (f, a)
  refuses-memory full k t Full h f a = absurd (cc)

  -- a split requests memory
  pub left-allocates : (k : List ℕ) (t : Trie V) → None ≡ strip_prefix (prefix_of t) k → PutAllocates k (Some t)
  left-allocates k (node p v w cs) e = (
    ap (λ o. unwrap_or o false) (descend-left put_allocation (node p v w cs) k e),
    trie_lookup-left p k _ w _ e,
  )

  -- the same update of the same tree
  pub ends-same : (full : Bool) (k : List ℕ) (r : SlotUpdate V) (w : Option V) (t t' : Trie V)
      (res : Result (Outcome V) (UpdateError V)) (u : Option (Trie V)) → t' ≡ t → EndsTree full k r w (Some t') res u
      → EndsTree full k r w (Some t) res u
  ends-same full k r w t t' res u e h = subst (λ (z : Trie V). EndsTree full k r w (Some z) res u) e h

  -- at the node of the key, which has children
  pub ends-here : (full : Bool) (p k rest : List ℕ) (v v' : Option V) (m : ℕ) (es : List (ℕ × Trie V))
      → IsCanonical (node p v m (as_children es))
      → Some rest ≡ strip_prefix p k → None ≡ slice_get rest 0 → is_leaf_at k (node p v m (as_children es)) ≡ false
      → (r : SlotUpdate V) (w : Option V) (res : Result (Outcome V) (UpdateError V)) (u : Trie V)
      → is_some w ≡ is_some v
      → EndsHere full r w (node p v' m (as_children es)) res u
      → EndsTree full k r w (Some (node p v m (as_children es))) res (Some u)
  ends-here full p k rest None v' m es c er end inner Keep None (Ok o) u s h = (ap Some h.0, h.1, rw h.1 tt)
  ends-here full p k rest (Some v) v' m es c er end inner Keep None (Ok o) u s h = absurd (cc)
  ends-here full p k rest v v' m es c er end inner Keep (Some y) (Ok o) u s h
      = (ap Some (h.0 ∙ sym (trie_put-ended p k rest y v m (as_children es) er end)), h.1, rw h.1 tt)
  ends-here full p k rest None v' m es c er end inner Remove None (Ok o) u s h = (ap Some h.0, h.1, rw h.1 tt)
  ends-here full p k rest (Some v) v' m es c er end inner Remove None (Ok o) u s h = absurd (cc)
  ends-here full p k rest v v' m es c er end inner Remove (Some y) (Ok o) u s h
      = (ap Some h.0 ∙ value-removed p k rest v m es c er end inner, h.1, rw h.1 tt)
  ends-here full p k rest v v' m es c er end inner (Insert x) w (Ok o) u s h
      = (ap Some (h.0 ∙ sym (trie_put-ended p k rest x v m (as_children es) er end)), h.1, h.2)
  ends-here full p k rest v v' m es c er end inner Keep w (Err (Not_inserted d)) u s h = absurd (let z = h.1 in cc)
  ends-here full p k rest v v' m es c er end inner Remove w (Err (Not_inserted d)) u s h = absurd (let z = h.1 in cc)
  ends-here full p k rest None v' m es c er end inner (Insert x) w (Err (Not_inserted d)) u s h
      = (ap Some h.0, h.1, h.2, rw h.3 h.4)
  ends-here full p k rest (Some v) v' m es c er end inner (Insert x) w (Err (Not_inserted d)) u s h = let z
      = rw h.2 at s in absurd (cc)
  ends-here full p k rest v v' m es c er end inner Keep w (Err Not_removed) u s h = absurd h
  ends-here full p k rest v v' m es c er end inner Remove w (Err Not_removed) u s h = absurd h
  ends-here full p k rest v v' m es c er end inner (Insert x) w (Err Not_removed) u s h = absurd h

  -- at a leaf
  leaf-put : (k : List ℕ) (x : V) (t : Trie V) → is_leaf_at k t ≡ true → node_holding (Some x) t ≡ trie_put k x t
  leaf-put k x (node p v w no_children) h = sym
      (trie_put-ended p k [] x v w no_children (end-rest (strip_prefix p k) h) refl)
  leaf-put k x (node p v w (child b t cs)) h = absurd (cc)

  pub leaf-done : (full : Bool) (k : List ℕ) (t u : Trie V) (r : SlotUpdate V) (w : Option V) (o : Outcome V)
      → is_leaf_at k t ≡ true → EndsLeaf r w t (Some o) u → EndsTree full k r w (Some t) (Ok o) (Some u)
  leaf-done full k t u Keep (Some w) o l h = let q : o ≡ Kept = let z = h.0 in cc in
      rw q (ap Some (h.1 ∙ leaf-put k w t l), refl, tt)
  leaf-done full k t u (Insert x) (Some w) o l h = let q : o ≡ Replaced w = let z = h.0 in cc in
      rw q (ap Some (h.1 ∙ leaf-put k x t l), refl, tt)
  leaf-done full k t u Remove (Some w) o l h = absurd (let z = h.0 in cc)
  leaf-done full k t u Keep None o l h = absurd h
  leaf-done full k t u (Insert x) None o l h = absurd h
  leaf-done full k t u Remove None o l h = absurd h

  -- a leaf that its parent is to remove: the value that was left is stored there
  pub leaf-lost : (t u : Trie V) (r : SlotUpdate V) (w : Option V) (o : Option (Outcome V)) → o ≡ None
      → EndsLeaf r w t o u → (r ≡ Remove) × (w ≢ None) × (u ≡ node_holding w t)
  leaf-lost t u Keep (Some w) o e h = absurd (let z = sym e ∙ h.0 in cc)
  leaf-lost t u (Insert x) (Some w) o e h = absurd (let z = sym e ∙ h.0 in cc)
  leaf-lost t u Remove (Some w) o e h = (refl, λ z. cc, h.1)
  leaf-lost t u Keep None o e h = absurd h
  leaf-lost t u (Insert x) None o e h = absurd h
  leaf-lost t u Remove None o e h = absurd h

  holding-prefix : (v : Option V) (t : Trie V) → prefix_of (node_holding v t) ≡ prefix_of t
  holding-prefix v (node p old n cs) = refl

  holding-children : (v : Option V) (t : Trie V) → children_in (node_holding v t) ≡ children_in t
  holding-children v (node p old n cs) = refl

  holding-value : (v : Option V) (t : Trie V) → value_of (node_holding v t) ≡ v
  holding-value v (node p old n cs) = refl

  -- in a child
  found-replaced : (b : ℕ) (t t' : Trie V) (es : List (ℕ × Trie V)) → Some t ≡ child_at b es
      → child_at b (replaced_at b t' es) ≡ Some t'
  found-replaced b t t' [] at = absurd (cc)
  found-replaced b t t' (e ∷ es) at = ⊎_elim
      (λ q. rw (eq-yes e.0 b q, eq-yes b b refl) refl)
      (λ n. rw (eq-no e.0 b n, eq-no e.0 b n) (found-replaced b t t' es (rw (eq-no e.0 b n) at at)))
      (equal_or_not e.0 b)

  without-replaced : (b : ℕ) (t' : Trie V) (es : List (ℕ × Trie V))
      → children_without b (as_children (replaced_at b t' es)) ≡ children_without b (as_children es)
  without-replaced b t' [] = refl
  without-replaced b t' (e ∷ es) = ⊎_elim
      (λ q. rw (eq-yes e.0 b q, eq-yes b b refl) refl)
      (λ n. rw (eq-no e.0 b n, eq-no e.0 b n) (ap (λ l. child e.0 e.1 l) (without-replaced b t' es)))
      (equal_or_not e.0 b)

  joins-replaced : (m : Option ℕ) (p : List ℕ) (b : ℕ) (t t' : Trie V) (es : List (ℕ × Trie V))
      → Some t ≡ child_at b es → prefix_of t' ≡ prefix_of t → JoinsWithin m p (as_children es)
      → JoinsWithin m p (as_children (replaced_at b t' es))
  joins-replaced m p b t t' [] at h j = j
  joins-replaced m p b t t' (e ∷ es) at h j = ⊎_elim
      (λ q. let f : t ≡ e.1 = cc (rw (eq-yes e.0 b q) at at) in rw (eq-yes e.0 b q, h, f) j)
      (λ n. rw (eq-no e.0 b n) (j.0, joins-replaced m p b t t' es (rw (eq-no e.0 b n) at at) h j.1))
      (equal_or_not e.0 b)

  -- a leaf whose parent is to remove it is there, with the value that was left
  pub joins-holding : (m : Option ℕ) (p : List ℕ) (b : ℕ) (w : Option V) (t t' : Trie V) (es es' : List (ℕ × Trie V))
      → Some t ≡ child_at b es → t' ≡ node_holding w t → es' ≡ replaced_at b t' es → JoinsWithin m p (as_children es)
      → JoinsWithin m p (as_children es')
  joins-holding m p b w t t' es es' at e ee j
      = rw ee (joins-replaced m p b t t' es at (ap prefix_of e ∙ holding-prefix w t) j)

  pub child-there : (b : ℕ) (t t' : Trie V) (es es' : List (ℕ × Trie V)) → Some t ≡ child_at b es
      → es' ≡ replaced_at b t' es → child_of b (as_children es') ≡ Some t'
  child-there b t t' es es' at ee = child_of-entries b es' ∙ ap (child_at b) ee ∙ found-replaced b t t' es at

  pub holding-edges : (k : List ℕ) (w : Option V) (t t' : Trie V) → is_leaf_at k t ≡ true → t' ≡ node_holding w t
      → edges_of (children_in t') ≡ []
  holding-edges k w t t' l e = ap (λ z. edges_of (children_in z)) e ∙ ap edges_of (holding-children w t)
      ∙ leaf-edges k t l

  pub holding-some : (w : Option V) (t t' : Trie V) → w ≢ None → t' ≡ node_holding w t → value_of t' ≢ None
  holding-some w t t' s e z = s (sym (ap value_of e ∙ holding-value w t) ∙ z)

  pub child-absent : (b : ℕ) (es es' : List (ℕ × Trie V)) → None ≡ child_at b es → es' ≡ es
      → child_of b (as_children es') ≡ None
  child-absent b es es' at ee = child_of-entries b es' ∙ ap (child_at b) ee ∙ sym at

  pub none-at : (b : ℕ) (es : List (ℕ × Trie V)) → child_of b (as_children es) ≡ None → child_at b es ≡ None
  none-at b es h = sym (child_of-entries b es) ∙ h

module _ {V : Type 0} {p k r : List ℕ} {v : Option V} {w b : ℕ} {t : Trie V} {es : List (ℕ × Trie V)}
    (f : Follows p k r v w b t es) (w' : ℕ) (t' : Trie V)
    (es' : List (ℕ × Trie V)) (em : w' ≡ w) (ee : es' ≡ replaced_at b t' es) where
  left-child : (y : Option V) → Some t' ≡ tree_left r y (Some t) → Some (node p v w' (as_children es'))
      ≡ tree_left k y (Some (node p v w (as_children es)))
  left-child None h = ap Some (child-put_back p v w w' b t t' es es' f.there (some-equal t' t h) em ee refl refl)
  left-child (Some y) h = ap Some (put-below f y w' t' es'
      (some-equal t' (trie_put r y t) h) em ee)

  pub ends-child_ok : (full : Bool) (z : SlotUpdate V) (y : Option V) (o : Outcome V)
      → EndsTree full r z y (Some t) (Ok o) (Some t')
      → EndsTree full k z y (Some (node p v w (as_children es))) (Ok o) (Some (node p v w' (as_children es')))
  ends-child_ok full Keep y o h = (left-child y h.0, h.1, h.2)
  ends-child_ok full Remove None o h = (left-child None h.0, h.1, h.2)
  ends-child_ok full Remove (Some y) o h = (
    removed-below f w' t' es' h.0 em ee,
    h.1,
    h.2,
  )
  ends-child_ok full (Insert x) y o h = (left-child (Some x) h.0, h.1, h.2)

  refuses-child : (full : Bool) (d : TreeError) → RefusesPut full r (Some t) d
      → RefusesPut full k (Some (node p v w (as_children es))) d
  refuses-child full Full h = h
  refuses-child full Memory h = (
    h.0,
    (
      put_allocation-below f h.1.0,
      record-child f h.1.1,
    ),
  )

  pub ends-child : (full : Bool) (z : SlotUpdate V) (y : Option V) (res : Result (Outcome V) (UpdateError V))
      → is_leaf_at r t ≡ false
      → EndsTree full r z y (Some t) res (Some t')
      → EndsTree full k z y (Some (node p v w (as_children es))) res (Some (node p v w' (as_children es')))
  ends-child full z y (Ok o) inner h = ends-child_ok full z y o h
  ends-child full z y (Err (Not_inserted d)) inner h = (left-child None h.0, h.1, h.2, refuses-child full d.error h.3)
  ends-child full z y (Err Not_removed) inner h
      = (left-child y h.0, h.1, h.2, remove_allocation-below f inner h.3)

  -- a leaf that is removed, or stays where there is no memory
  without-removed : is_leaf_at r t ≡ true → Some (without_child b (node p v w' (as_children es')))
      ≡ trie_remove k (node p v w (as_children es))
  without-removed l = ap Some (rw (
    em,
    ee,
    child_of-entries b (replaced_at b t' es),
    found-replaced b t t' es f.there,
    without-replaced b t' es,
  ) (sym (rw (child_of-entries b es, ← f.there) refl)))
      ∙ removed-leaf f (leaf-removed r t l)

  pub ends-lost : (full : Bool) (z : SlotUpdate V) (y : Option V) (res : Result (Outcome V) (UpdateError V))
      (u : Trie V) → is_leaf_at r t ≡ true → z ≡ Remove → y ≢ None → t' ≡ node_holding y t
      → RemovesLeaf b (option_and_then value_of (child_of b (as_children es'))) (node p v w' (as_children es')) res u
      → EndsTree full k z y (Some (node p v w (as_children es))) res (Some u)
  ends-lost full Keep y res u l is s h q = absurd (cc)
  ends-lost full (Insert x) y res u l is s h q = absurd (cc)
  ends-lost full Remove None res u l is s h q = absurd (s refl)
  ends-lost full Remove (Some y) (Ok (Removed x)) u l is s h q =
      let held : Some x ≡ Some y = q.0 ∙ ap (option_and_then value_of) (child-there b t t' es es' f.there ee)
      ∙ ap value_of h ∙ holding-value (Some y) t in
      let same : x ≡ y = cc in
      (ap Some q.1 ∙ without-removed l, ap Removed same, tt)
  ends-lost full Remove (Some y) (Ok Absent) u l is s h q = absurd q
  ends-lost full Remove (Some y) (Ok New) u l is s h q = absurd q
  ends-lost full Remove (Some y) (Ok Kept) u l is s h q = absurd q
  ends-lost full Remove (Some y) (Ok (Replaced z)) u l is s h q = absurd q
  ends-lost full Remove (Some y) (Err (Not_inserted d)) u l is s h q = absurd q
  ends-lost full Remove (Some y) (Err Not_removed) u l is s h q =
      let many : length (edges_of (as_children es')) ≡ length (edges_of (as_children es)) = edges_of-length es'
      ∙ ap length ee ∙ replaced-length b t' es ∙ sym (edges_of-length es) in (
        ap Some q.0 ∙ left-child (Some y) (ap Some (h ∙ leaf-put r y t l)),
        refl,
        s,
        remove_allocation-leaf f w es l refl refl (rw (← em) q.1) (rw (← em, ← many) q.2),
      )
