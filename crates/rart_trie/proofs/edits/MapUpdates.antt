-- What an update of a tree does to its pairs.
use Rattle.std.proofs.Common.{◌≡◌, ℕ, ◌≤◌, max, true, false, Bool, List, [], ◌∷◌, length, Option, Some, None, Result}
use Rattle.std.proofs.Common.{Ok, Err, is_some, if◌then◌else◌, refl, arith, sym, ap, subst, ◌∙◌}
use Rattle.std.specs.Prelude.{OnErr}
use Rattle.rart_keys.specs.ByteStrings.{bytes_eq}
use Rattle.rart_keys.specs.SortedMap.{IsAscending, count_of, keys_of, longest_key, lookup, put}
use Rattle.rart_keys.proofs.strings.ByteOrder.{bytes_eq-equal}
use Rattle.rart_keys.proofs.maps.SortedMaps.{ascending-put, equal_by_lookups, length-put, lookup-put}
use Rattle.rart_parts.specs.declared.error.TreeError.{TreeError}
use Rattle.rart_parts.specs.declared.error.TreeError.TheVariants.{Memory, Full}
use Rattle.rart_trie.specs.declared.slot.Outcome.{Outcome}
use Rattle.rart_trie.specs.declared.slot.SlotUpdate.{SlotUpdate}
use Rattle.rart_trie.specs.declared.slot.SlotUpdate.TheVariants.{Keep, Remove, Insert}
use Rattle.rart_trie.specs.declared.slot.UpdateError.{UpdateError}
use Rattle.rart_trie.specs.declared.slot.UpdateError.TheVariants.{Insert as Not_inserted, Remove as Not_removed}
use Rattle.rart_trie.specs.edits.EditRuns.{puts, removes}
use Rattle.rart_trie.specs.tries.Tree.{IsCanonicalTree, tree_nodes, tree_pairs}
use Rattle.rart_trie.specs.tries.Trie.{Trie}
use Rattle.rart_trie.specs.edits.Slots.{CountsPairs, longest_after, outcome_of}
use Rattle.rart_trie.specs.edits.TreeUpdates.{RemoveAllocates, EndsTree, RefusesPut, tree_updated}
use Rattle.rart_trie.specs.edits.Updates.{EndsMap, RefusesNew, map_left, map_updated}
use Rattle.rart_trie.specs.edits.RemoveAllocations.{remove_allocates}
use Rattle.rart_trie.proofs.edits.EditRunLemmas.{run-canonical, run-pairs_of, tree-shape}
use Rattle.rart_trie.proofs.edits.InsertAllocationLemmas.{allocates-insert}
use Rattle.rart_trie.proofs.edits.LoanLemmas.{keys-put, longest-alike, lengths-alike}
use Rattle.rart_trie.proofs.removals.RemoveAllocationLemmas.{allocates-remove}
use Rattle.rart_trie.proofs.removals.RemovedPairs.{length-without_key, longest_key-without}
use Rattle.rart_trie.proofs.shapes.ShapeLemmas.{one_shape}
use Rattle.rart_trie.proofs.tries.CanonicalTests.{longest_key-put}
use Rattle.rart_trie.proofs.tries.PairLemmas.{tree_pairs-ascend}

module _ {V : Type 0} where
  -- the pairs
  updated-pairs : (k : List ℕ) (r : SlotUpdate V) (w : Option V) (t : Option (Trie V)) → IsCanonicalTree t
      → tree_pairs (tree_updated k r w t) ≡ map_updated k r w (tree_pairs t)
  updated-pairs k Keep None t c = refl
  updated-pairs k Keep (Some w) t c = run-pairs_of (puts k w ∷ []) t c
  updated-pairs k Remove None t c = refl
  updated-pairs k Remove (Some w) t c = run-pairs_of (removes k ∷ []) t c
  updated-pairs k (Insert x) w t c = run-pairs_of (puts k x ∷ []) t c

  allocates-removal : (k : List ℕ) (t : Option (Trie V)) → IsCanonicalTree t → RemoveAllocates k t
      → remove_allocates (keys_of (tree_pairs t)) k ≡ true
  allocates-removal k None c h = absurd h
  allocates-removal k (Some t) c h = sym (allocates-remove k t c) ∙ h

  refuses-new : (full : Bool) (k : List ℕ) (t : Option (Trie V)) (e : TreeError) → IsCanonicalTree t
      → RefusesPut full k t e → RefusesNew full k (tree_pairs t) e
  refuses-new full k t Full c h = h
  refuses-new full k None Memory c h = absurd h.1
  refuses-new full k (Some t) Memory c h = (h.0, sym (allocates-insert k t c) ∙ h.1.0)

  pub ends-map : (full : Bool) (k : List ℕ) (r : SlotUpdate V) (w : Option V) (t : Option (Trie V))
      (res : Result (Outcome V) (UpdateError V)) (u : Option (Trie V)) → IsCanonicalTree t
      → EndsTree full k r w t res u → EndsMap full k r w (tree_pairs t) res (tree_pairs u)
  ends-map full k r w t (Ok o) u c h = (ap tree_pairs h.0 ∙ updated-pairs k r w t c, h.1, h.2)
  ends-map full k r w t (Err (Not_inserted d)) u c h = (ap tree_pairs h.0, h.1, h.2, refuses-new full k t d.error c h.3)
  ends-map full k r w t (Err Not_removed) u c h
      = (ap tree_pairs h.0 ∙ updated-pairs k Keep w t c, h.1, h.2, allocates-removal k t c h.3)

  -- the form
  updated-canonical : (k : List ℕ) (r : SlotUpdate V) (w : Option V) (t : Option (Trie V)) → IsCanonicalTree t
      → IsCanonicalTree (tree_updated k r w t)
  updated-canonical k Keep None t c = c
  updated-canonical k Keep (Some w) t c = run-canonical (puts k w ∷ []) t c
  updated-canonical k Remove None t c = c
  updated-canonical k Remove (Some w) t c = run-canonical (removes k ∷ []) t c
  updated-canonical k (Insert x) w t c = run-canonical (puts k x ∷ []) t c

  pub ends-canonical : (full : Bool) (k : List ℕ) (r : SlotUpdate V) (w : Option V) (t : Option (Trie V))
      (res : Result (Outcome V) (UpdateError V)) (u : Option (Trie V)) → IsCanonicalTree t
      → EndsTree full k r w t res u → IsCanonicalTree u
  ends-canonical full k r w t (Ok o) u c h
      = subst (λ (z : Option (Trie V)). IsCanonicalTree z) (sym h.0) (updated-canonical k r w t c)
  ends-canonical full k r w t (Err (Not_inserted d)) u c h
      = subst (λ (z : Option (Trie V)). IsCanonicalTree z) (sym h.0) c
  ends-canonical full k r w t (Err Not_removed) u c h
      = subst (λ (z : Option (Trie V)). IsCanonicalTree z) (sym h.0) (updated-canonical k Keep w t c)

  -- how many pairs there are, and how long their keys
  none-stored : (o : Option V) → false ≡ is_some o → count_of o ≡ 0
  none-stored None h = refl
  none-stored (Some v) h = absurd (cc)

  some-stored : (o : Option V) → true ≡ is_some o → count_of o ≡ 1
  some-stored None h = absurd (cc)
  some-stored (Some v) h = refl

  keys-stored : (k : List ℕ) (w x : V) (m : List (List ℕ × V)) (o : Option V) → IsAscending m → lookup k m ≡ o
      → is_some (Some w) ≡ is_some o → keys_of (put k x m) ≡ keys_of m
  keys-stored k w x m None a e h = absurd (cc)
  keys-stored k w x m (Some v) a e h = keys-put k v x m a e

  length-stored : (k : List ℕ) (w x : V) (m : List (List ℕ × V)) → IsAscending m
      → is_some (Some w) ≡ is_some (lookup k m) → length (put k x m) ≡ length m
  length-stored k w x m a s = lengths-alike (put k x m) m (keys-stored k w x m (lookup k m) a refl s)

  longest-stored : (k : List ℕ) (w x : V) (m : List (List ℕ × V)) → IsAscending m
      → is_some (Some w) ≡ is_some (lookup k m) → longest_key (put k x m) ≡ longest_key m
  longest-stored k w x m a s = longest-alike (put k x m) m (keys-stored k w x m (lookup k m) a refl s)

  counted : (k : List ℕ) (r : SlotUpdate V) (w : Option V) (m : List (List ℕ × V)) → IsAscending m
      → is_some w ≡ is_some (lookup k m) → CountsPairs (Ok (outcome_of r w)) (length m) (length (map_updated k r w m))
  counted k Keep None m a s = refl
  counted k Remove None m a s = refl
  counted k (Insert x) None m a s = omega (arith, length-put k x m a, none-stored (lookup k m) s)
  counted k Keep (Some w) m a s = length-stored k w w m a s
  counted k Remove (Some w) m a s = omega (arith, length-without_key k m a, some-stored (lookup k m) s)
  counted k (Insert x) (Some w) m a s = length-stored k w x m a s

  left-counted : (k : List ℕ) (w : Option V) (m : List (List ℕ × V)) → IsAscending m → is_some w ≡ is_some (lookup k m)
      → length (map_left k w m) ≡ length m
  left-counted k None m a s = refl
  left-counted k (Some w) m a s = length-stored k w w m a s

  pub ends-counted : (full : Bool) (k : List ℕ) (r : SlotUpdate V) (w : Option V) (m : List (List ℕ × V))
      (res : Result (Outcome V) (UpdateError V)) (n : List (List ℕ × V)) → IsAscending m
      → is_some w ≡ is_some (lookup k m)
      → EndsMap full k r w m res n → CountsPairs res (length m) (length n)
  ends-counted full k r w m (Ok o) n a s h = rw (h.0, h.1) (counted k r w m a s)
  ends-counted full k r w m (Err (Not_inserted d)) n a s h = ap length h.0
  ends-counted full k r w m (Err Not_removed) n a s h = ap length h.0 ∙ left-counted k w m a s

  longest-updated : (k : List ℕ) (r : SlotUpdate V) (w : Option V) (m : List (List ℕ × V)) → IsAscending m
      → is_some w ≡ is_some (lookup k m) → longest_key (map_updated k r w m)
      ≤ longest_after (Ok (outcome_of r w)) (length k) (longest_key m)
  longest-updated k Keep None m a s = omega arith
  longest-updated k Remove None m a s = omega arith
  longest-updated k (Insert x) None m a s = longest_key-put k x (max (longest_key m) (length k)) m (omega arith)
      (omega arith)
  longest-updated k Keep (Some w) m a s = omega (arith, longest-stored k w w m a s)
  longest-updated k Remove (Some w) m a s = longest_key-without k m
  longest-updated k (Insert x) (Some w) m a s = omega (arith, longest-stored k w x m a s)

  longest-left : (k : List ℕ) (w : Option V) (m : List (List ℕ × V)) → IsAscending m → is_some w ≡ is_some (lookup k m)
      → longest_key (map_left k w m) ≤ longest_key m
  longest-left k None m a s = omega arith
  longest-left k (Some w) m a s = omega (arith, longest-stored k w w m a s)

  pub ends-longest : (full : Bool) (k : List ℕ) (r : SlotUpdate V) (w : Option V) (m : List (List ℕ × V))
      (res : Result (Outcome V) (UpdateError V)) (n : List (List ℕ × V)) → IsAscending m
      → is_some w ≡ is_some (lookup k m)
      → EndsMap full k r w m res n → longest_key n ≤ longest_after res (length k) (longest_key m)
  ends-longest full k r w m (Ok o) n a s h = rw (h.0, h.1) (longest-updated k r w m a s)
  ends-longest full k r w m (Err (Not_inserted d)) n a s h = omega (arith, ap longest_key h.0)
  ends-longest full k r w m (Err Not_removed) n a s h = omega (arith, ap longest_key h.0, longest-left k w m a s)

  -- the nodes, where it was refused
  pub nodes-alike : (t u : Option (Trie V)) → IsCanonicalTree t → IsCanonicalTree u
      → keys_of (tree_pairs u) ≡ keys_of (tree_pairs t) → tree_nodes u ≡ tree_nodes t
  nodes-alike t u c d e = one_shape (keys_of (tree_pairs t)) (tree_nodes u) (tree_nodes t) (rw e at (tree-shape u d))
      (tree-shape t c)

  keys-left : (k : List ℕ) (w : Option V) (m : List (List ℕ × V)) → IsAscending m → is_some w ≡ is_some (lookup k m)
      → keys_of (map_left k w m) ≡ keys_of m
  keys-left k None m a s = refl
  keys-left k (Some w) m a s = keys-stored k w w m (lookup k m) a refl s

  pub ends-nodes : (full : Bool) (k : List ℕ) (r : SlotUpdate V) (w : Option V) (t : Option (Trie V))
      (res : Result (Outcome V) (UpdateError V)) (u : Option (Trie V)) → IsCanonicalTree t
      → is_some w ≡ is_some (lookup k (tree_pairs t))
      → EndsTree full k r w t res u → OnErr res (tree_nodes u ≡ tree_nodes t)
  ends-nodes full k r w t (Ok o) u c s h = tt
  ends-nodes full k r w t (Err (Not_inserted d)) u c s h = ap tree_nodes h.0
  ends-nodes full k r w t (Err Not_removed) u c s h
      = nodes-alike t u c (ends-canonical full k r w t (Err Not_removed) u c h)
      (ap keys_of (ap tree_pairs h.0 ∙ updated-pairs k Keep w t c)
      ∙ keys-left k w (tree_pairs t) (tree_pairs-ascend t c) s)

  -- a value that is put back
  back-look : (k q : List ℕ) (v w : V) (m : List (List ℕ × V)) (b : Bool) → bytes_eq k q ≡ b → lookup k m ≡ Some v
      → (if b then Some v else (if b then Some w else lookup q m)) ≡ lookup q m
  back-look k q v w m true e s = sym s ∙ ap (λ z. lookup z m) (bytes_eq-equal k q e)
  back-look k q v w m false e s = refl

  pub put-back : (k : List ℕ) (v w : V) (m : List (List ℕ × V)) → IsAscending m → lookup k m ≡ Some v
      → put k v (put k w m) ≡ m
  put-back k v w m a s = equal_by_lookups (put k v (put k w m)) m
      (ascending-put k v (put k w m) (ascending-put k w m a)) a
      (λ q. lookup-put q k v (put k w m) ∙ ap (λ z. if bytes_eq k q then Some v else z) (lookup-put q k w m)
      ∙ back-look k q v w m (bytes_eq k q) refl s)

  same-look : (k q : List ℕ) (v : V) (m : List (List ℕ × V)) (b : Bool) → bytes_eq k q ≡ b → lookup k m ≡ Some v
      → (if b then Some v else lookup q m) ≡ lookup q m
  same-look k q v m true e s = sym s ∙ ap (λ z. lookup z m) (bytes_eq-equal k q e)
  same-look k q v m false e s = refl

  pub put-same : (k : List ℕ) (v : V) (m : List (List ℕ × V)) → IsAscending m → lookup k m ≡ Some v → put k v m ≡ m
  put-same k v m a s = equal_by_lookups (put k v m) m (ascending-put k v m a) a (λ q. lookup-put q k v m
      ∙ same-look k q v m (bytes_eq k q) refl s)
