-- The pair at a place beside a descent.
use Rattle.std.proofs.Common.{◌≡◌, ℕ, Bool, suc, ◌+◌, ◌<◌, ◌≤◌, inl, List, [], ◌∷◌}
use Rattle.std.proofs.Common.{◌++◌, length, drop, Option, Some, None}
use Rattle.std.proofs.Common.{option_map, refl, sym, ap, ◌∙◌, arith, length-append, IfSome}
use Rattle.std.specs.Prelude.{slice_get}
use Rattle.std.specs.Option.{option_or}
use Rattle.std.proofs.Math.Seq.{drop-append_seam}
use Rattle.std.proofs.lemmas.List.{append-nil}
use Rattle.rart_keys.specs.Filters.{last_or}
use Rattle.rart_keys.specs.KeyBytes.{IsWithin}
use Rattle.rart_keys.specs.Ranges.{is_from_bound, is_until}
use Rattle.rart_keys.specs.SortedMap.{keys_of, longest_key}
use Rattle.rart_keys.specs.declared.partials.Partial.{Ghosts}
use Rattle.rart_keys.proofs.strings.ByteOrder.{eq-yes}
use Rattle.rart_trie.specs.declared.node.ends.End.{End}
use Rattle.rart_trie.specs.declared.node.ends.End.TheVariants.{First, Last}
use Rattle.rart_trie.specs.tries.Ends.{end_of, first_child, last_child}
use Rattle.rart_trie.specs.tries.Trie.{Trie, Children, no_children, child, children_pairs, fitting_node, own_pair}
use Rattle.rart_trie.specs.tries.Trie.{pairs_of, prefix_of, AreCanonical, IsCanonical, StartsWith}
use Rattle.rart_trie.specs.walks.ProbeCount.{entered_nodes, probe_count}
use Rattle.rart_trie.proofs.edits.InsertLemmas.{fewer-within}
use Rattle.rart_trie.proofs.removals.PrefixFilters.{longest_key-filter}
use Rattle.rart_trie.proofs.storages.UnderLemmas.{none-last}
use Rattle.rart_trie.proofs.tries.CanonicalTests.{IsCanonical-test, test-IsCanonical}
use Rattle.rart_trie.proofs.tries.EndLemmas.{child-none, end-first, end-some}
use Rattle.rart_trie.proofs.tries.FirstBytes.{pairs_of-first}
use Rattle.rart_trie.proofs.tries.NodeCounts.{some-pairs}
use Rattle.rart_trie.proofs.tries.ProbeLemmas.{entered_nodes-probe_count, few-entered_nodes}
use Rattle.rart_trie.proofs.tries.StepLemmas.{step-on}
use Rattle.rart_nodes.specs.declared.node.path_walk.nearest.Place.{Place}
use Rattle.rart_nodes.specs.declared.node.path_walk.nearest.Place.TheVariants.{Own, Below}
use Rattle.rart_nodes.specs.ranges.Nearest.{pairs_toward, place_pair}
use Rattle.rart_nodes.specs.tries.KeysAfter.{after_bytes}
use Rattle.rart_nodes.proofs.ranges.NearestLemmas.{last-or}
use Rattle.rart_nodes.proofs.walks.PathLemmas.{starts-long}

first-some : {A : Type 0} (xs ys : List A) → 0 < length xs → slice_get xs 0 ≡ slice_get (xs ++ ys) 0
first-some [] ys h = absurd (omega arith)
first-some (x ∷ xs) ys h = refl

or-some : {A : Type 0} (o p : Option A) (x : A) → o ≡ Some x → option_or o p ≡ o
or-some o p x h = rw h refl

starts : (p : List ℕ) → 0 < length p → (b : ℕ) × StartsWith b p
starts [] h = absurd (omega arith)
starts (b ∷ p) h = (b, refl)

starts-get : (b : ℕ) (k : List ℕ) → StartsWith b k → Some b ≡ slice_get k 0
starts-get b [] h = absurd h
starts-get b (x ∷ k) h = ap Some (sym h)

module _ {V : Type 0} where
  -- below the first child
  pub first-among : (v : Option V) (cs : Children V) (t : Trie V) → AreCanonical 0 cs → v ≡ None
      → Some t ≡ option_map (λ e. e.1) (first_child cs)
      → (slice_get (pairs_of t) 0 ≡ slice_get (own_pair v ++ children_pairs cs) 0) × (0 < length (prefix_of t))
  first-among v no_children t w n h = absurd (cc)
  first-among v (child b u cs) t w n h = let same : t ≡ u = cc in
      rw (same, n) (first-some (pairs_of u) (children_pairs cs) (some-pairs u w.2), starts-long b (prefix_of u) w.1)

  -- below the last one
  last-of : (low : ℕ) (cs : Children V) (t : Trie V) → AreCanonical low cs
      → Some t ≡ option_map (λ e. e.1) (last_child cs)
      → (last_or None (children_pairs cs) ≡ last_or None (pairs_of t)) × IsCanonical t × (0 < length (prefix_of t))
  last-of low no_children t w h = absurd (cc)
  last-of low (child b u no_children) t w h = let same : t ≡ u = cc in
      rw same (ap (last_or None) (append-nil (pairs_of u)), w.2, starts-long b (prefix_of u) w.1)
  last-of low (child b u (child c s cs)) t w h =
      let r = last-of (suc b) (child c s cs) t w.3 h in
      let x = end-some Last (pairs_of t) (some-pairs t r.1) in (
        last-or (pairs_of u) (children_pairs (child c s cs))
            ∙ ap (λ z. option_or z (last_or None (pairs_of u))) r.0
            ∙ or-some (last_or None (pairs_of t)) (last_or None (pairs_of u)) x.0 x.1,
        r.1,
        r.2,
      )

  pub last-among : (v : Option V) (cs : Children V) (t : Trie V) → AreCanonical 0 cs
      → Some t ≡ option_map (λ e. e.1) (last_child cs)
      → (last_or None (pairs_of t) ≡ last_or None (own_pair v ++ children_pairs cs)) × (0 < length (prefix_of t))
  last-among v cs t w h =
      let r = last-of 0 cs t w h in
      let x = end-some Last (pairs_of t) (some-pairs t r.1) in (
        sym (last-or (own_pair v) (children_pairs cs) ∙ ap (λ z. option_or z (last_or None (own_pair v))) r.0
            ∙ or-some (last_or None (pairs_of t)) (last_or None (own_pair v)) x.0 x.1),
        r.2,
      )

  -- without a child
  pub last-own : (v : Option V) (cs : Children V)
      → ◌≡◌ {A = Option (Trie V)} None (option_map (λ e. e.1) (last_child cs))
      → last_or None (own_pair v) ≡ last_or None (own_pair v ++ children_pairs cs)
  last-own v cs h = rw (none-last cs (sym (child-none (last_child cs) (sym h)))) (ap (last_or None)
      (sym (append-nil (own_pair v))))

  -- a look-up of the pair at an end of a child enters no more nodes than the key has bytes
  few-below : (e : End) (t : Trie V) (x : List ℕ × V) → IsCanonical t → 0 < length (prefix_of t)
      → end_of e (pairs_of t) ≡ Some x → probe_count (keys_of (pairs_of t)) x.0 ≤ length x.0
  few-below e t x w l h =
      let b = starts (prefix_of t) l in
      let first = end-first e b.0 x (pairs_of t) (pairs_of-first b.0 t b.1) h in
      let parent : Trie V = fitting_node [] (Some x.1) (child b.0 t no_children) in
      let whole : IsCanonical parent = (inl refl, refl, (omega arith, b.1, w, tt)) in
      let on : entered_nodes x.0 parent ≡ 1 + entered_nodes x.0 t
      = rw (eq-yes b.0 b.0 refl) at
      (step-on parent x.0 x.0 b.0 (test-IsCanonical parent whole) refl (starts-get b.0 x.0 first)).1 in
      omega (arith, on, few-entered_nodes x.0 parent whole, entered_nodes-probe_count x.0 t w)

  pub pair-visits : (k q : List ℕ) (v : V) (e : End) (t : Trie V) → IsCanonical t → 0 < length (prefix_of t)
      → after_bytes k (end_of e (pairs_of t)) ≡ Some (q, v)
      → probe_count (keys_of (pairs_of t)) (drop (length k) q) ≤ length q
  pair-visits k q v e t w l h =
      let x = end-some e (pairs_of t) (some-pairs t w) in
      let joined : ◌≡◌ {A = Option (List ℕ × V)} (Some (k ++ x.0.0, x.0.1)) (Some (q, v))
      = ap (after_bytes k) (sym x.1) ∙ h in
      let same : ◌≡◌ {A = List ℕ × V} (k ++ x.0.0, x.0.1) (q, v) = cc in
      let key : k ++ x.0.0 ≡ q = ap (λ z. z.0) same in
      let rest : drop (length k) q ≡ x.0.0 = ap (drop (length k)) (sym key) ∙ drop-append_seam k x.0.0 in
      omega (
        arith,
        ap (probe_count (keys_of (pairs_of t))) rest,
        few-below e t x.0 w l x.1,
        ap length key,
        length-append k x.0.0,
      )

  -- no nearest pair is longer than the longest
  pub longest-toward : (e : End) (h : Bool) (s : List ℕ) (es : List (List ℕ × V))
      → longest_key (pairs_toward e h s es) ≤ longest_key es
  longest-toward First h s es = longest_key-filter (λ e. is_from_bound h s e.0) es
  longest-toward Last h s es = longest_key-filter (λ e. is_until h s e.0) es

  module _ {P C : Type 0} {G : Ghosts P} where
    -- each place has a pair
    place-some : (e : End) (p : Place P V C G) → (x : List ℕ × V) × (place_pair e (Some p) ≡ Some x)
    place-some e (Own v) = (([], v.now), refl)
    place-some e (Below s) = end-some e (pairs_of s.node.now)
        (some-pairs s.node.now (IsCanonical-test s.node.now s.canonical))

    pub nearer-place : (e : End) (p : Option (Place P V C G)) (q : Place P V C G) (k : List ℕ)
        (o : Option (List ℕ × V)) → p ≡ Some q
        → after_bytes k (place_pair e (Some q)) ≡ option_or (after_bytes k (place_pair e p)) o
    nearer-place e p q k o h = let x = place-some e q in rw (h, x.1) refl

    -- the bytes in front of it fit where the key does
    pub place-within : (maximum : Option ℕ) (e : End) (p : Place P V C G) (k : List ℕ) (n : ℕ)
        → IfSome (after_bytes k (place_pair e (Some p))) (λ x. IsWithin maximum (length x.0)) → n ≤ length k
        → IsWithin maximum n
    place-within maximum e p k n h l =
        let x = place-some e p in
        let whole : IsWithin maximum (length (k ++ x.0.0)) = rw x.1 at h in
        fewer-within maximum (length (k ++ x.0.0)) n (omega (arith, l, length-append k x.0.0)) whole
