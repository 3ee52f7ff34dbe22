-- Where taking the part below a prefix requests memory: at one node, as the code does, and by the keys.
use Rattle.std.proofs.Common.{◌≡◌, ◌≢◌, ℕ, ◌+◌, ◌<◌, ◌≤◌, Bool, true, false, List, [], ◌∷◌, length, refl, arith, sym}
use Rattle.std.proofs.Common.{ap, ◌∙◌, ◌++◌, Option, Some, None, is_some, if◌then◌else◌}
use Rattle.std.specs.Option.{unwrap_or}
use Rattle.std.specs.Prelude.{slice_get}
use Rattle.rart_keys.specs.ByteStrings.{begins, strip_prefix}
use Rattle.rart_keys.specs.Filters.{below}
use Rattle.rart_keys.specs.SortedMap.{keys_of}
use Rattle.rart_parts.specs.Entries.{child_at}
use Rattle.rart_trie.specs.edits.PrefixRemovals.{TakeAllocates, take_prefix_allocation, trie_take_prefix_allocates}
use Rattle.rart_trie.specs.edits.RemoveAllocations.{last_before, moves_down, shrinks}
use Rattle.rart_trie.specs.shapes.Shape.{NodeRecord, record_at}
use Rattle.rart_trie.specs.storages.Capacities.{previous_capacity}
use Rattle.rart_trie.specs.tries.Trie.{Trie, node, Children, child_of, descend, descend_child, edges_of, own_pair}
use Rattle.rart_trie.specs.tries.Trie.{children_pairs, pairs_of, prefix_of, record_of, with_prefix, IsCanonical}
use Rattle.rart_trie.specs.tries.Trie.{AreCanonical}
use Rattle.rart_trie.specs.tries.Tree.{tree_pairs}
use Rattle.rart_trie.specs.tries.TrieCode.{as_children}
use Rattle.rart_trie.proofs.edits.PutAllocationLemmas.{allocated}
use Rattle.rart_trie.proofs.removals.PrefixFilters.{longer-not_begins}
use Rattle.rart_trie.proofs.removals.RemoveAllocationLemmas.{moves_is, same_before}
use Rattle.rart_trie.proofs.removals.RemoveAllocationSteps.{moves-yes}
use Rattle.rart_trie.proofs.shapes.RecordsAlong.{AreReadings, none-first, reads-apart, reads-after, records_in}
use Rattle.rart_trie.proofs.shapes.ShapeLemmas.{records, records-at}
use Rattle.rart_trie.proofs.tries.Descents.{Keeps, descend-at, descend-child_of, descend-followed}
use Rattle.rart_trie.proofs.tries.Descents.{descend-left, descends}
use Rattle.rart_trie.proofs.tries.NodeCounts.{some-pairs}
use Rattle.rart_trie.proofs.tries.BelowLemmas.{below-after_some, below-apart, below-child, below-nil}

last-none : (l : Option NodeRecord) (q : List ℕ) → last_before (λ z. None) l q ≡ l
last-none l [] = refl
last-none l (b ∷ q) = last-none l q

abbrev shrinks_by : Option NodeRecord → (List ℕ → Option NodeRecord) → List ℕ → Bool → Type 0
shrinks_by l f q a = shrinks (last_before f l q) ≡ a

shrinks_read : (l : Option NodeRecord) → AreReadings (shrinks_by l)
shrinks_read l = record {
  same = λ f g q a h e. ap shrinks (sym (same_before f g l q h)) ∙ e;
  past = λ f b q a n e. ap (λ o. shrinks (last_before (λ z. f (b ∷ z)) (if is_some o then o else l) q)) n ∙ e;
}

module _ {V : Type 0} where
  some-prefixed : (p : List ℕ) (es : List (List ℕ × V)) → es ≢ [] → with_prefix p es ≢ []
  some-prefixed p [] n z = n refl
  some-prefixed p (e ∷ es) n z = cc

  some-left : (es fs : List (List ℕ × V)) → 0 < length fs → es ≡ fs → es ≢ []
  some-left es fs l e z = omega (arith, l, ap length (sym e ∙ z))

  -- at a node below one with the record l
  abbrev TakesBy : List ℕ → Option (Trie V) → Option Bool → Type 0
  TakesBy q o a = (l : Option NodeRecord) → moves_down l ≡ shrinks l → unwrap_or a (moves_down l) ≡ true
      → (below q (tree_pairs o) ≢ []) × shrinks_by l (records_in o) q true

  takes-below : (b : ℕ) (r : List ℕ) (l : Option NodeRecord) (cs : Children V) → AreCanonical 0 cs
      → shrinks_by l (records_in (child_of b cs)) (b ∷ r) true
      → shrinks_by l (λ z. descend_child records b (b ∷ z) cs) r true
  takes-below b r l cs w h = let f = records_in (child_of b cs) in
      ap shrinks (same_before (λ z. descend_child records b (b ∷ z) cs) (λ z. f (b ∷ z)) l r
      (λ z. descend-child_of records b 0 (b ∷ z) cs w))
      ∙ sym (ap (λ o. shrinks (last_before (λ z. f (b ∷ z)) (if is_some o then o else l) r)) (none-first b cs w)) ∙ h

  takes-left : (z : Bool) (k p : List ℕ) (v : Option V) (n : ℕ) (cs : Children V) (l : Option NodeRecord)
      → IsCanonical (node p v n cs) → strip_prefix p k ≡ None
      → below k (pairs_of (node p v n cs)) ≡ (if z then pairs_of (node p v n cs) else [])
      → moves_down l ≡ shrinks l → unwrap_or (if z then None else Some false) (moves_down l) ≡ true
      → (below k (pairs_of (node p v n cs)) ≢ []) × shrinks_by l (records_in (Some (node p v n cs))) k true
  takes-left true k p v n cs l w s m e h = (
    some-left (below k (pairs_of (node p v n cs))) (pairs_of (node p v n cs)) (some-pairs (node p v n cs) w) m,
    reads-apart (shrinks_by l) (shrinks_read l) p k v n cs true s (λ f d. sym e ∙ h)
        (λ q. ap shrinks (last-none l q) ∙ sym e ∙ h),
  )
  takes-left false k p v n cs l w s m e h = absurd (cc)

  takes-kept : Keeps {V = V} take_prefix_allocation TakesBy
  takes-kept = record {
    absent = λ k l e h. absurd (cc);
    left = λ k p v n cs w s l e h. takes-left (begins k p) k p v n cs l w s
        (below-apart p k (own_pair v ++ children_pairs cs) s) e h;
    ended = λ k p v n cs w s l e h. (
      some-left (below k (pairs_of (node p v n cs))) (pairs_of (node p v n cs)) (some-pairs (node p v n cs) w)
          (below-after_some p k [] (own_pair v ++ children_pairs cs) s
          ∙ ap (with_prefix p) (below-nil (own_pair v ++ children_pairs cs))),
      reads-after (shrinks_by l) (shrinks_read l) p k [] v n cs true s (sym e ∙ h),
    );
    on = λ k p v n cs b r a w s h l e g.
        let x = h (Some (record_of (node p v n cs))) (moves_is (length (edges_of cs)) n w.1) g in (
          λ z. some-prefixed p (below (b ∷ r) (tree_pairs (child_of b cs))) x.0
              (sym (below-child p k r b v n cs w.2 s) ∙ z),
          reads-after (shrinks_by l) (shrinks_read l) p k (b ∷ r) v n cs true s
              (takes-below b r (Some (record_of (node p v n cs))) cs w.2 x.1),
        );
  }

  pub allocates-take : (q : List ℕ) (t : Trie V) → IsCanonical t → trie_take_prefix_allocates None q t ≡ true
      → TakeAllocates q (pairs_of t)
  allocates-take q t w h = let x = descends take_prefix_allocation TakesBy takes-kept q (Some t) w None refl h in (
    x.0,
    ap shrinks (sym (same_before (λ p. descend records p t) (record_at (keys_of (pairs_of t))) None q
        (λ p. records-at p t w))) ∙ x.1,
  )

  -- at one node
  takes-step : (p k rest : List ℕ) (v : Option V) (w b : ℕ) (t : Trie V) (es : List (ℕ × Trie V))
      → IsCanonical (node p v w (as_children es)) → Some rest ≡ strip_prefix p k → Some b ≡ slice_get rest 0
      → Some t ≡ child_at b es
      → trie_take_prefix_allocates None k (node p v w (as_children es))
      ≡ trie_take_prefix_allocates (Some (record_of (node p v w (as_children es)))) rest t
  takes-step p k rest v w b t es c e h at
      = ap (λ o. unwrap_or o false) (descend-followed take_prefix_allocation p k rest b v w (as_children es) e h)
      ∙ ap (λ o. unwrap_or o (moves_down (Some (record_of (node p v w (as_children es))))))
      (descend-at take_prefix_allocation b 0 rest (Some t) es c.2 at)

  pub allocates_take-below : (p k rest : List ℕ) (v : Option V) (w b : ℕ) (t : Trie V) (es : List (ℕ × Trie V))
      → IsCanonical (node p v w (as_children es)) → Some rest ≡ strip_prefix p k → Some b ≡ slice_get rest 0
      → Some t ≡ child_at b es → trie_take_prefix_allocates None rest t ≡ true
      → trie_take_prefix_allocates None k (node p v w (as_children es)) ≡ true
  allocates_take-below p k rest v w b t es c e h at allocates = takes-step p k rest v w b t es c e h at
      ∙ allocated (descend take_prefix_allocation rest t) (moves_down (Some (record_of (node p v w
      (as_children es))))) allocates

  whole-allocates : (k : List ℕ) (t : Trie V) → begins k (prefix_of t) ≡ true → descend take_prefix_allocation k t
      ≡ None
  whole-allocates k (node p v w cs) h = elim (strip_prefix p k) as (λ o. strip_prefix p k ≡ o
      → descend take_prefix_allocation k (node p v w cs) ≡ None) [
        | None ↦ λ s. descend-left take_prefix_allocation (node p v w cs) k (sym s)
            ∙ ap (λ z. if z then None else Some false) h
        | Some r ↦ elim r as (λ r. strip_prefix p k ≡ Some r → descend take_prefix_allocation k (node p v w cs)
            ≡ None) [
              | [] ↦ λ s. rw s refl
              | b ∷ r ↦ λ s. let z = longer-not_begins p k r b s in absurd (cc (z, h))
            ]
      ] refl

  pub allocates_take-whole : (p k rest : List ℕ) (v : Option V) (w w' b : ℕ) (t : Trie V) (es es' : List (ℕ × Trie V))
      → IsCanonical (node p v w (as_children es)) → Some rest ≡ strip_prefix p k → Some b ≡ slice_get rest 0
      → Some t ≡ child_at b es → begins rest (prefix_of t) ≡ true → w' ≡ w → es' ≡ es → 4 < w'
      → length (edges_of (as_children es')) ≤ previous_capacity w' + 1
      → trie_take_prefix_allocates None k (node p v w (as_children es)) ≡ true
  allocates_take-whole p k rest v w w' b t es es' c e h at goes ew ee wide few = takes-step p k rest v w b t es c e h at
      ∙ ap (λ o. unwrap_or o (moves_down (Some (record_of (node p v w (as_children es))))))
      (whole-allocates rest t goes)
      ∙ moves-yes (length (edges_of (as_children es))) w c.1 (rw ew at wide) (rw (ew, ee) at few)
