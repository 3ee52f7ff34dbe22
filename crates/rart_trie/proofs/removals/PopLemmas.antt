-- What taking the pair at an end does at one node, as the code does it.
use Rattle.std.proofs.Common.{◌≡◌, ◌≢◌, ℕ, ◌+◌, ◌<◌, ◌≤◌, true, false, List, [], ◌∷◌, ◌++◌, length, Option, Some, None}
use Rattle.std.proofs.Common.{refl, arith, sym, ap, ◌∙◌, option_map, length-append, subst}
use Rattle.std.specs.Prelude.{slice_get, Result, Ok, Err, IfOk, OnOk}
use Rattle.std.specs.Option.{IsSomeAnd}
use Rattle.std.proofs.lemmas.List.{append_assoc, append-nil}
use Rattle.rart_keys.specs.ByteStrings.{strip_prefix, IsLess}
use Rattle.rart_keys.specs.Filters.{last_or}
use Rattle.rart_keys.specs.KeyBytes.{IsWithin}
use Rattle.rart_keys.specs.SortedMap.{AreAbove, IsAscending, count_of, keys_of, longest_key, lookup, without}
use Rattle.rart_keys.proofs.strings.ByteOrder.{below-not_eq, bytes_eq-itself}
use Rattle.rart_parts.specs.Entries.{child_at, replaced_at}
use Rattle.rart_trie.specs.declared.node.ends.End.{End}
use Rattle.rart_trie.specs.declared.node.ends.End.TheVariants.{First, Last}
use Rattle.rart_trie.specs.edits.Deletion.{is_leaf_at, is_end, merged_if_needed, without_child}
use Rattle.rart_trie.specs.edits.Pops.{PopAllocates, Pops, PopsEnd}
use Rattle.rart_trie.specs.edits.RemoveAllocations.{remove_allocates}
use Rattle.rart_trie.specs.storages.Capacities.{previous_capacity}
use Rattle.rart_trie.specs.tries.Ends.{end_of, end_child}
use Rattle.rart_trie.specs.tries.Tree.{tree_pairs}
use Rattle.rart_trie.specs.tries.Trie.{Trie, node, Children, no_children, child, children_in, edges_of, own_pair}
use Rattle.rart_trie.specs.tries.Trie.{pairs_of, children_pairs, prefix_of, value_of, StartsWith, IsCanonical}
use Rattle.rart_trie.specs.tries.TrieCode.{as_children}
use Rattle.rart_trie.proofs.edits.InsertLemmas.{fewer-within}
use Rattle.rart_trie.proofs.edits.JoinedLengths.{prefix-before}
use Rattle.rart_trie.proofs.edits.LeafLemmas.{leaf-removed}
use Rattle.rart_trie.proofs.removals.RemoveAllocationLemmas.{allocates-remove}
use Rattle.rart_trie.proofs.removals.RemoveAllocationSteps.{remove_allocation-below, remove_allocation-leaf}
use Rattle.rart_trie.proofs.removals.RemoveLemmas.{canonical-removed, pairs_of-removed}
use Rattle.rart_trie.proofs.removals.RemoveSteps.{value-removed, removed-below, removed-leaf}
use Rattle.rart_trie.proofs.removals.RemovedPairs.{without-above}
use Rattle.rart_trie.proofs.tries.CanonicalTests.{longest_key-append}
use Rattle.rart_trie.proofs.tries.Descents.{child_of-entries}
use Rattle.rart_trie.proofs.tries.EndLemmas.{EndsBelow, end-first, ends-below, ends-here, strip_prefix-append}
use Rattle.rart_trie.proofs.tries.FirstBytes.{pairs_of-first}
use Rattle.rart_trie.proofs.tries.PairLemmas.{pairs_of-ascend}
use Rattle.rart_trie.proofs.tries.RestLemmas.{Follows}
use Rattle.rart_trie.proofs.tries.StepLemmas.{longest-of}

pub first-is : (b : ℕ) (k : List ℕ) → StartsWith b k → Some b ≡ slice_get k 0
first-is b [] f = absurd f
first-is b (x ∷ k) f = ap Some (sym f)

strip-same : (p : List ℕ) → Some [] ≡ strip_prefix p p
strip-same p = sym (ap (strip_prefix p) (sym (append-nil p)) ∙ strip_prefix-append p [])

module _ {V : Type 0} where
  pub inner-stays : (k : List ℕ) (t : Trie V) → children_in t ≢ no_children → is_leaf_at k t ≡ false
  inner-stays k (node p v w no_children) h = absurd (h refl)
  inner-stays k (node p v w (child b t cs)) h = refl

  pub leaf-here : (t : Trie V) → children_in t ≡ no_children → is_leaf_at (prefix_of t) t ≡ true
  leaf-here (node p v w no_children) h = ap is_end (sym (strip-same p))
  leaf-here (node p v w (child b t cs)) h = absurd (cc)

  leaf-end : (e : End) (t : Trie V) → children_in t ≡ no_children → end_child e t ≡ None
  leaf-end First (node p None w no_children) h = refl
  leaf-end First (node p (Some v) w no_children) h = refl
  leaf-end Last (node p v w no_children) h = refl
  leaf-end e (node p v w (child b t cs)) h = absurd (cc)

  -- where the children are given as entries
  pub entries-some : (es : List (ℕ × Trie V)) (n : ℕ) → n ≡ length es → 0 < n → as_children es ≢ no_children
  entries-some [] n l h q = absurd (omega arith)
  entries-some (e ∷ es) n l h q = cc

  pub entries-none : (es : List (ℕ × Trie V)) (n : ℕ) → n ≡ length es → n ≤ 0 → as_children es ≡ no_children
  entries-none [] n l h = refl
  entries-none (e ∷ es) n l h = absurd (omega arith)

  -- the node holds the pair
  pub pop-here : (e : End) (q r p : List ℕ) (v : Option V) (w : ℕ) (es : List (ℕ × Trie V))
      → IsCanonical (node p v w (as_children es)) → as_children es ≢ no_children
      → end_child e (node p v w (as_children es)) ≡ None → r ≡ q ++ p
      → Pops e (node p v w (as_children es)) q r v (merged_if_needed (node p None w (as_children es)))
  pop-here e q r p v w es c i h s = let here = ends-here e (node p v w (as_children es)) c h in record {
    pair = (p, here.value);
    here = here.pair;
    path = s;
    value = here.own;
    rest = value-removed p p [] v w es c (strip-same p) refl (inner-stays p (node p v w (as_children es)) i);
  }

  -- the child t at b holds the pair at the end of a canonical node
  pub record EndsIn (e : End) (p : List ℕ) (v : Option V) (w b : ℕ) (t : Trie V) (es : List (ℕ × Trie V)) : Type 0
    where
      pub canonical : IsCanonical (node p v w (as_children es))
      pub end : end_child e (node p v w (as_children es)) ≡ Some (b, t)
      pub there : Some t ≡ child_at b es

  -- the child that the end shows is the one that is stored at its byte
  pub same-end : (e : End) (p : List ℕ) (v : Option V) (w b : ℕ) (t u : Trie V) (es : List (ℕ × Trie V))
      → IsCanonical (node p v w (as_children es)) → Some (b, u) ≡ end_child e (node p v w (as_children es))
      → Some t ≡ child_at b es → EndsIn e p v w b t es
  same-end e p v w b t u es c h at =
      let below = ends-below e b (node p v w (as_children es)) u c (sym h) in
      let found : Some u ≡ Some t = sym below.found ∙ child_of-entries b es ∙ sym at in
      let same : u ≡ t = cc in
      record { canonical = c; end = sym h ∙ ap (λ z. Some (b, z)) same; there = at }

module _ {V : Type 0} {e : End} {p : List ℕ} {v : Option V} {w b : ℕ} {t : Trie V} {es : List (ℕ × Trie V)}
    (h : EndsIn e p v w b t es) where
  ends-in : EndsBelow e (node p v w (as_children es)) b t
  ends-in = ends-below e b (node p v w (as_children es)) t h.canonical h.end

  pair-below : (x : List ℕ × V) → end_of e (pairs_of t) ≡ Some x
      → end_of e (pairs_of (node p v w (as_children es))) ≡ Some (p ++ x.0, x.1)
  pair-below x s = ends-in.pair ∙ ap (option_map (λ x. (p ++ x.0, x.1))) s

  pair-follows : (x : List ℕ × V) → end_of e (pairs_of t) ≡ Some x → Follows p (p ++ x.0) x.0 v w b t es
  pair-follows x s = record {
    canonical = h.canonical;
    left = sym (strip_prefix-append p x.0);
    first = first-is b x.0 (end-first e b x (pairs_of t) (pairs_of-first b t ends-in.first) s);
    there = h.there;
  }

  -- a child keeps some of its pairs
  pub pop-below : (q q' r : List ℕ) (taken : Option V) (w' : ℕ) (t' : Trie V) (es' : List (ℕ × Trie V)) → q' ≡ q ++ p
      → Pops e t q' r taken t' → w' ≡ w → es' ≡ replaced_at b t' es
      → Pops e (node p v w (as_children es)) q r taken (node p v w' (as_children es'))
  pop-below q q' r taken w' t' es' s m ew ee = record {
    pair = (p ++ m.pair.0, m.pair.1);
    here = pair-below m.pair m.here;
    path = m.path ∙ ap (λ z. z ++ m.pair.0) s ∙ append_assoc q p m.pair.0;
    value = m.value;
    rest = removed-below (pair-follows m.pair m.here) w' t' es' m.rest ew ee;
  }

  -- the child is a leaf
  pub pop-leaf : (q r : List ℕ) → children_in t ≡ no_children → r ≡ (q ++ p) ++ prefix_of t
      → Pops e (node p v w (as_children es)) q r (value_of t) (without_child b (node p v w (as_children es)))
  pop-leaf q r l s = let here = ends-here e t ends-in.canonical (leaf-end e t l) in record {
    pair = (p ++ prefix_of t, here.value);
    here = pair-below (prefix_of t, here.value) here.pair;
    path = s ∙ append_assoc q p (prefix_of t);
    value = here.own;
    rest = removed-leaf (pair-follows (prefix_of t, here.value) here.pair)
        (leaf-removed (prefix_of t) t (leaf-here t l));
  }

  -- where it requests memory
  pub pop_allocates-below : children_in t ≢ no_children → PopAllocates e t → PopAllocates e (node p v w
      (as_children es))
  pop_allocates-below i m = record {
    pair = (p ++ m.pair.0, m.pair.1);
    here = pair-below m.pair m.here;
    allocates = remove_allocation-below (pair-follows m.pair m.here) (inner-stays m.pair.0 t i) m.allocates;
  }

  pub pop_allocates-leaf : (w' : ℕ) (es' : List (ℕ × Trie V)) → children_in t ≡ no_children → w' ≡ w → es' ≡ es → 4 < w'
      → length (edges_of (as_children es')) ≤ previous_capacity w' + 1 → PopAllocates e (node p v w (as_children es))
  pop_allocates-leaf w' es' l ew ee wide few = let here = ends-here e t ends-in.canonical (leaf-end e t l) in record {
    pair = (p ++ prefix_of t, here.value);
    here = pair-below (prefix_of t, here.value) here.pair;
    allocates = remove_allocation-leaf (pair-follows (prefix_of t, here.value) here.pair) w' es'
        (leaf-here t l) ew ee wide few;
  }

module _ {V : Type 0} where
  -- The pairs: a list without its first or last pair.
  last-above : (k : List ℕ) (o x : List ℕ × V) (es : List (List ℕ × V)) → AreAbove k (o ∷ es)
      → last_or (Some o) es ≡ Some x → IsLess k x.0
  last-above k o x [] a h = let s : o ≡ x = cc in rw (← s) a.0
  last-above k o x (e ∷ es) a h = last-above k e x es a.1 h

  without-first : (x : List ℕ × V) (es : List (List ℕ × V)) → IsAscending es → slice_get es 0 ≡ Some x
      → es ≡ x ∷ without x.0 es
  without-first x [] a h = absurd (cc)
  without-first x (e ∷ es) a h = let s : e ≡ x = cc in
      let here : e ∷ es ≡ e ∷ without e.0 (e ∷ es)
      = rw (bytes_eq-itself e.0) (ap (λ l. e ∷ l) (sym (without-above e.0 es a.0))) in
      subst (λ z. e ∷ es ≡ z ∷ without z.0 (e ∷ es)) s here

  without-last : (x o : List ℕ × V) (es : List (List ℕ × V)) → IsAscending (o ∷ es) → last_or (Some o) es ≡ Some x
      → o ∷ es ≡ without x.0 (o ∷ es) ++ x ∷ []
  without-last x o [] a h = let s : o ≡ x = cc in rw (← s) (rw (bytes_eq-itself o.0) refl)
  without-last x o (e ∷ es) a h = rw (below-not_eq o.0 x.0 (last-above o.0 e x es a.0 h))
      (ap (λ l. o ∷ l) (without-last x e es a.1 h))

  pops-pairs : (e : End) (x : List ℕ × V) (es : List (List ℕ × V)) → IsAscending es → end_of e es ≡ Some x
      → PopsEnd e es (Some x) (without x.0 es)
  pops-pairs First x es a h = without-first x es a h
  pops-pairs Last x [] a h = absurd (cc)
  pops-pairs Last x (o ∷ es) a h = without-last x o es a h

  -- what the map learns
  pub pops-map : (e : End) (t t' : Trie V) (q r : List ℕ) (v : V) → IsCanonical t → Pops e t q r (Some v) t' → q ≡ []
      → PopsEnd e (pairs_of t) (Some (r, v)) (pairs_of t')
  pops-map e t t' q r v c m n =
      let value : v ≡ m.pair.1 = let s = m.value in cc in
      let pairs : pairs_of t' ≡ without m.pair.0 (pairs_of t)
      = ap tree_pairs m.rest ∙ pairs_of-removed m.pair.0 t c in
      let path : r ≡ m.pair.0 = m.path ∙ ap (λ z. z ++ m.pair.0) n in
      rw (pairs, path, value) (pops-pairs e m.pair (pairs_of t) (pairs_of-ascend t c) m.here)

  pub pops-canonical : (e : End) (t t' : Trie V) (q r : List ℕ) (o : Option V) → IsCanonical t → Pops e t q r o t'
      → IsCanonical t'
  pops-canonical e t t' q r o c m = rw (← m.rest) at (canonical-removed m.pair.0 t c)

  -- the pair at an end is stored
  stored-last : (x o : List ℕ × V) (es : List (List ℕ × V)) → IsAscending (o ∷ es) → last_or (Some o) es ≡ Some x
      → lookup x.0 (o ∷ es) ≡ Some x.1
  stored-last x o [] a h = let s : o ≡ x = cc in
      subst (λ z. lookup z.0 (o ∷ []) ≡ Some z.1) s (rw (bytes_eq-itself o.0) refl)
  stored-last x o (e ∷ es) a h = rw (below-not_eq o.0 x.0 (last-above o.0 e x es a.0 h)) (stored-last x e es a.1 h)

  end-stored : (e : End) (x : List ℕ × V) (es : List (List ℕ × V)) → IsAscending es → end_of e es ≡ Some x
      → lookup x.0 es ≡ Some x.1
  end-stored First x [] a h = absurd (cc)
  end-stored First x (o ∷ es) a h = let s : o ≡ x = cc in
      subst (λ z. lookup z.0 (o ∷ es) ≡ Some z.1) s (rw (bytes_eq-itself o.0) refl)
  end-stored Last x [] a h = absurd (cc)
  end-stored Last x (o ∷ es) a h = stored-last x o es a h

  pub pops-allocates : (e : End) (t : Trie V) → IsCanonical t → PopAllocates e t
      → IsSomeAnd (end_of e (pairs_of t)) (λ p. (remove_allocates (keys_of (pairs_of t)) p.0 ≡ true)
      × (lookup p.0 (pairs_of t) ≢ None))
  pops-allocates e t c m = rw m.here (
    sym (allocates-remove m.pair.0 t c) ∙ m.allocates,
    λ z. let s : Some m.pair.1 ≡ None = sym (end-stored e m.pair (pairs_of t) (pairs_of-ascend t c) m.here) ∙ z in cc,
  )

  -- how much is left
  pub pops-count : {A : Type 0} (e : End) (f : A → List ℕ × V) (o : Option A) (old new : List (List ℕ × V))
      → PopsEnd e old (option_map f o) new → length new + count_of o ≡ length old
  pops-count First f None old new h = rw (h.0, h.1) refl
  pops-count Last f None old new h = rw (h.0, h.1) refl
  pops-count First f (Some x) old new h = omega (arith, ap length h)
  pops-count Last f (Some x) old new h = omega (arith, ap length h, length-append new (f x ∷ []))

  pub pops-longest : (e : End) (o : Option (List ℕ × V)) (old new : List (List ℕ × V))
      → PopsEnd e old o new → longest_key new ≤ longest_key old
  pops-longest First None old new h = rw (h.0, h.1) (omega arith)
  pops-longest Last None old new h = rw (h.0, h.1) (omega arith)
  pops-longest First (Some x) old new h = omega (arith, ap longest_key h)
  pops-longest Last (Some x) old new h = omega (arith, ap longest_key h, longest_key-append new (x ∷ []))

  -- the keys below a child are keys of the node, after its prefix
  pub prefix-within : (m : Option ℕ) (n : ℕ) (p : List ℕ) (v : Option V) (w : ℕ) (cs : Children V)
      → IsCanonical (node p v w cs)
      → IsWithin m (n + longest_key (pairs_of (node p v w cs))) → IsWithin m (n + length p)
  prefix-within m n p v w cs c h = fewer-within m (n + longest_key (pairs_of (node p v w cs))) (n + length p)
      (omega (arith, prefix-before p v w cs c)) h

  pub below-within : (m : Option ℕ) (q r : List ℕ) (b : ℕ) (p : List ℕ) (v : Option V) (w : ℕ) (t : Trie V)
      (es : List (ℕ × Trie V)) → IsCanonical (node p v w (as_children es)) → Some t ≡ child_at b es
      → r ≡ q ++ p → IsWithin m (length q + longest_key (pairs_of (node p v w (as_children es))))
      → IsWithin m (length r + longest_key (pairs_of t))
  below-within m q r b p v w t es c at s h
      = fewer-within m (length q + longest_key (pairs_of (node p v w (as_children es))))
      (length r + longest_key (pairs_of t)) (omega (
        arith,
        prefix-before p v w (as_children es) c,
        longest_key-append (own_pair v) (children_pairs (as_children es)),
        longest-of b t (as_children es) (child_of-entries b es ∙ sym at),
        ap length s,
        length-append q p,
      )) h

  pub end-there : (e : End) (p : List ℕ) (v : Option V) (w b : ℕ) (u : Trie V) (es : List (ℕ × Trie V))
      → IsCanonical (node p v w (as_children es)) → Some (b, u) ≡ end_child e (node p v w (as_children es))
      → None ≡ child_at b es → ⊥
  end-there e p v w b u es c h at =
      let below = ends-below e b (node p v w (as_children es)) u c (sym h) in
      let found : Some u ≡ None = sym below.found ∙ child_of-entries b es ∙ sym at in cc

  -- `Pops` for equal tries
  pub pops-as : (e : End) (t t' u u' : Trie V) (q r : List ℕ) (o o' : Option V) → t ≡ t' → o' ≡ o → u' ≡ u
      → Pops e t q r o u → Pops e t' q r o' u'
  pops-as e t t' u u' q r o o' a b c m = rw (← a, b, c) m

-- what holds of an answer, whatever it is
pub pops-on : {A E Q : Type 0} {P : A → Type 0} (r : Result A E) → ((x : A) → P x → Q) → IfOk r P → OnOk r Q
pops-on (Ok x) f p = f x p
pops-on (Err e) f p = tt
