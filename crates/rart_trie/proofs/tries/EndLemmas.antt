-- The pair at either end of a canonical tree: where it is, and what a look-up of its key enters.
use Rattle.std.proofs.Common.{◌≡◌, ℕ, ◌+◌, ◌<◌, ◌≤◌, ⊎_elim, max, true, List, [], ◌∷◌, ◌++◌, length, map}
use Rattle.std.proofs.Common.{Option, Some, None, option_map, refl, sym, ap, ◌∙◌, arith, length-append, suc}
use Rattle.std.specs.Prelude.{MatchOption, slice_get}
use Rattle.std.proofs.lemmas.List.{append-nil, append_assoc}
use Rattle.std.proofs.lemmas.Option.{slice_get-map}
use Rattle.rart_keys.specs.ByteStrings.{strip_prefix}
use Rattle.rart_keys.specs.Filters.{last_or}
use Rattle.rart_keys.specs.SortedMap.{keys_of, longest_key}
use Rattle.rart_keys.proofs.strings.ByteOrder.{eq-yes, eq-no}
use Rattle.rart_trie.specs.declared.node.ends.End.{End}
use Rattle.rart_trie.specs.declared.node.ends.End.TheVariants.{First, Last}
use Rattle.rart_trie.specs.tries.CanonicalTest.{is_canonical}
use Rattle.rart_trie.specs.tries.Ends.{end_of, last_child, end_child}
use Rattle.rart_trie.specs.tries.Trie.{Trie, node, Children, no_children, child, child_of, child_in, children_pairs}
use Rattle.rart_trie.specs.tries.Trie.{own_pair, pairs_of, prefix_of, value_of, StartsWith}
use Rattle.rart_trie.specs.tries.Trie.{IsCanonical, AreCanonical, descend_tree}
use Rattle.rart_trie.specs.tries.Tree.{tree_pairs, IsCanonicalTree}
use Rattle.rart_trie.specs.tries.TrieCode.{node_count}
use Rattle.rart_trie.specs.walks.ProbeCount.{VisitsAtMost, counts, entered_nodes, probe_count, tree_entered}
use Rattle.rart_trie.proofs.tries.CanonicalTests.{IsCanonical-test, test-IsCanonical}
use Rattle.rart_trie.proofs.tries.Descents.{child-first, descend-ended, descend-on}
use Rattle.rart_trie.proofs.tries.FirstBytes.{AllFirst, pairs_of-first}
use Rattle.rart_trie.proofs.tries.NodeCounts.{some-pairs}
use Rattle.rart_trie.proofs.tries.StepLemmas.{child-falls, few-tree_entered, tree_entered-probe_count}

module _ {A B : Type 0} where
  last_or-map : (f : A → B) (o : Option A) (xs : List A) → last_or (option_map f o) (map f xs)
      ≡ option_map f (last_or o xs)
  last_or-map f o [] = refl
  last_or-map f o (x ∷ xs) = last_or-map f (Some x) xs

  pub end_of-map : (e : End) (f : A → B) (xs : List A) → end_of e (map f xs) ≡ option_map f (end_of e xs)
  end_of-map First f xs = slice_get-map f xs 0
  end_of-map Last f xs = last_or-map f None xs

module _ {A : Type 0} where
  last_or-append : (o : Option A) (xs ys : List A) → last_or o (xs ++ ys) ≡ last_or (last_or o xs) ys
  last_or-append o [] ys = refl
  last_or-append o (x ∷ xs) ys = last_or-append (Some x) xs ys

  -- the last of what is there doesn't depend on what is before it
  last_or-any : (o : Option A) (xs : List A) → 0 < length xs → last_or o xs ≡ last_or None xs
  last_or-any o [] h = absurd (omega arith)
  last_or-any o (x ∷ xs) h = refl

  first-append : (xs ys : List A) → 0 < length xs → slice_get (xs ++ ys) 0 ≡ slice_get xs 0
  first-append [] ys h = absurd (omega arith)
  first-append (x ∷ xs) ys h = refl

  last-some : (x : A) (xs : List A) → (y : A) × (last_or (Some x) xs ≡ Some y)
  last-some x [] = (x, refl)
  last-some x (y ∷ xs) = last-some y xs

  pub end-some : (e : End) (xs : List A) → 0 < length xs → (x : A) × (end_of e xs ≡ Some x)
  end-some e [] h = absurd (omega arith)
  end-some First (x ∷ xs) h = (x, refl)
  end-some Last (x ∷ xs) h = last-some x xs

pub strip_prefix-append : (p r : List ℕ) → strip_prefix p (p ++ r) ≡ Some r
strip_prefix-append [] r = refl
strip_prefix-append (x ∷ p) r = rw (eq-yes x x refl) (strip_prefix-append p r)

module _ {V : Type 0} where
  longest-some : (o x : List ℕ × V) (es : List (List ℕ × V)) → last_or (Some o) es ≡ Some x
      → length x.0 ≤ max (length o.0) (longest_key es)
  longest-some o x [] h = let s : o ≡ x = cc in rw s (omega arith)
  longest-some o x (e ∷ es) h = omega (arith, longest-some e x es h)

  -- its key is no longer than the longest
  pub end-short : (e : End) (x : List ℕ × V) (es : List (List ℕ × V)) → end_of e es ≡ Some x
      → length x.0 ≤ longest_key es
  end-short First x [] h = absurd (cc)
  end-short Last x [] h = absurd (cc)
  end-short First x (o ∷ es) h = let s : o ≡ x = cc in rw (← s) (omega arith)
  end-short Last x (o ∷ es) h = longest-some o x es h

  first-some : (c : ℕ) (o x : List ℕ × V) (es : List (List ℕ × V)) → AllFirst c (o ∷ es) → last_or (Some o) es ≡ Some x
      → StartsWith c x.0
  first-some c o x [] f h = let s : o ≡ x = cc in rw (← s) f.0
  first-some c o x (e ∷ es) f h = first-some c e x es f.1 h

  pub end-first : (e : End) (c : ℕ) (x : List ℕ × V) (es : List (List ℕ × V)) → AllFirst c es → end_of e es ≡ Some x
      → StartsWith c x.0
  end-first First c x [] f h = absurd (cc)
  end-first Last c x [] f h = absurd (cc)
  end-first First c x (o ∷ es) f h = let s : o ≡ x = cc in rw (← s) f.0
  end-first Last c x (o ∷ es) f h = first-some c o x es f h

  -- the pair at an end of a node is the node's own
  pub record EndsHere (e : End) (t : Trie V) : Type 0 where
    pub value : V
    pub own : value_of t ≡ Some value
    pub pair : end_of e (pairs_of t) ≡ Some (prefix_of t, value)

  -- it is that of the child u at b
  pub record EndsBelow (e : End) (t : Trie V) (b : ℕ) (u : Trie V) : Type 0 where
    pub found : child_in b t ≡ Some u
    pub canonical : IsCanonical u
    pub first : StartsWith b (prefix_of u)
    pub pair : end_of e (pairs_of t) ≡ option_map (λ x. (prefix_of t ++ x.0, x.1)) (end_of e (pairs_of u))

  same-child : (b c : ℕ) (t u : Trie V) → ◌≡◌ {A = Option (ℕ × Trie V)} (Some (b, t)) (Some (c, u)) → (b ≡ c) × (t ≡ u)
  same-child b c t u h = let s : ◌≡◌ {A = ℕ × Trie V} (b, t) (c, u) = cc in (ap (λ z. z.0) s, ap (λ z. z.1) s)

  none-last : (b : ℕ) (t : Trie V) (cs : Children V) → last_child (child b t cs) ≡ None → ⊥
  none-last b t no_children h = cc
  none-last b t (child c u cs) h = none-last c u cs h

  pub ends-here : (e : End) (t : Trie V) → IsCanonical t → end_child e t ≡ None → EndsHere e t
  ends-here First (node p None n no_children) w h = absurd (⊎_elim (λ i. cc) (λ i. i) w.0)
  ends-here First (node p None n (child b t cs)) w h = absurd (cc)
  ends-here First (node p (Some v) n cs) w h
      = record { value = v; own = refl; pair = ap (λ k. Some (k, v)) (append-nil p) }
  ends-here Last (node p None n no_children) w h = absurd (⊎_elim (λ i. cc) (λ i. i) w.0)
  ends-here Last (node p (Some v) n no_children) w h
      = record { value = v; own = refl; pair = ap (λ k. Some (k, v)) (append-nil p) }
  ends-here Last (node p v n (child b t cs)) w h = absurd (none-last b t cs h)

  -- the last child among children in order
  last-child : (low b : ℕ) (u : Trie V) (cs : Children V) → AreCanonical low cs → last_child cs ≡ Some (b, u)
      → (child_of b cs ≡ Some u) × IsCanonical u × (low ≤ b)
      × (last_or None (children_pairs cs) ≡ last_or None (pairs_of u)) × (0 < length (children_pairs cs))
  last-child low b u no_children w h = absurd (cc)
  last-child low b u (child c t no_children) w h = let s = same-child c b t u h in
      rw (← s.1, ← s.0) (
        rw (eq-yes c c refl) refl,
        w.2,
        w.0,
        ap (last_or None) (append-nil (pairs_of t)),
        omega (arith, some-pairs t w.2, length-append (pairs_of t) []),
      )
  last-child low b u (child c t (child d s cs)) w h =
      let r = last-child (suc c) b u (child d s cs) w.3 h in (
        rw (eq-no c b (λ q. omega (arith, r.2))) r.0,
        r.1,
        omega (arith, r.2, w.0),
        last_or-append None (pairs_of t) (children_pairs (child d s cs))
            ∙ last_or-any (last_or None (pairs_of t)) (children_pairs (child d s cs)) r.4 ∙ r.3,
        omega (arith, r.4, length-append (pairs_of t) (children_pairs (child d s cs))),
      )

  pub ends-below : (e : End) (b : ℕ) (t u : Trie V) → IsCanonical t → end_child e t ≡ Some (b, u) → EndsBelow e t b u
  ends-below First b (node p None n no_children) u w h = absurd (cc)
  ends-below First b (node p None n (child c t cs)) u w h = let s = same-child c b t u h in
      rw (← s.1, ← s.0) (record {
        found = rw (eq-yes c c refl) refl;
        canonical = w.2.2;
        first = w.2.1;
        pair = end_of-map First (λ x. (p ++ x.0, x.1)) (pairs_of t ++ children_pairs cs)
            ∙ ap (option_map (λ x. (p ++ x.0, x.1)))
            (first-append (pairs_of t) (children_pairs cs) (some-pairs t w.2.2));
      })
  ends-below First b (node p (Some v) n cs) u w h = absurd (cc)
  ends-below Last b (node p v n cs) u w h = let r = last-child 0 b u cs w.2 h in record {
    found = r.0;
    canonical = r.1;
    first = child-first b 0 u cs w.2 r.0;
    pair = end_of-map Last (λ x. (p ++ x.0, x.1)) (own_pair v ++ children_pairs cs)
        ∙ ap (option_map (λ x. (p ++ x.0, x.1))) (last_or-append None (own_pair v) (children_pairs cs)
        ∙ last_or-any (last_or None (own_pair v)) (children_pairs cs) r.4 ∙ r.3);
  }

  -- a look-up of the key enters one node, or one more than below the child
  entered-here : (t : Trie V) → entered_nodes (prefix_of t) t ≡ 1
  entered-here t = descend-ended counts t (prefix_of t) []
      (sym (strip_prefix-append (prefix_of t) []) ∙ ap (strip_prefix (prefix_of t)) (append-nil (prefix_of t))) refl

  entered-on : (b : ℕ) (k : List ℕ) (t u : Trie V) → IsCanonical t → child_in b t ≡ Some u → StartsWith b k
      → entered_nodes (prefix_of t ++ k) t ≡ 1 + entered_nodes k u
  entered-on b [] t u w h f = absurd f
  entered-on b (c ∷ k) t u w h f = descend-on counts t (prefix_of t ++ c ∷ k) (c ∷ k) b (test-IsCanonical t w)
      (sym (strip_prefix-append (prefix_of t) (c ∷ k))) (ap Some (sym f))
      ∙ ap (λ o. 1 + descend_tree counts (c ∷ k) o) h

  -- a child that is shown without its byte
  child-some : (o : Option (ℕ × Trie V)) (u : Trie V) → option_map (λ e. e.1) o ≡ Some u
      → (b : ℕ) × (o ≡ Some (b, u))
  child-some None u h = absurd (cc)
  child-some (Some e) u h = let s : e.1 ≡ u = cc in (e.0, ap (λ t. Some (e.0, t)) s)

  pub child-none : (o : Option (ℕ × Trie V)) → ◌≡◌ {A = Option (Trie V)} (option_map (λ e. e.1) o) None → o ≡ None
  child-none None h = refl
  child-none (Some e) h = absurd (cc)

  -- A descent from the root of a tree to t along bytes q, which raised a count from m to n.
  pub record TreePath (e : End) (o : Option (Trie V)) (m : ℕ) (q : List ℕ) (t : Trie V) (n : ℕ) : Type 0 where
    pub front : List ℕ
    pub rest : List ℕ × V
    pub path : q ≡ front ++ prefix_of t
    pub here : end_of e (pairs_of t) ≡ Some rest
    pub whole : end_of e (tree_pairs o) ≡ Some (front ++ rest.0, rest.1)
    pub visits : n + entered_nodes rest.0 t ≡ m + tree_entered (front ++ rest.0) o + 1

  pub tree-start : (e : End) (o : Option (Trie V)) (t : Trie V) (m n : ℕ) (q : List ℕ) → is_canonical t ≡ true
      → o ≡ Some t → q ≡ prefix_of t → n ≡ m + 1 → TreePath e o m q t n
  tree-start e o t m n q w h p i =
      let s = end-some e (pairs_of t) (some-pairs t (IsCanonical-test t w)) in
      rw (h, p, i) (record { front = []; rest = s.0; path = refl; here = s.1; whole = s.1; visits = omega arith })

  pub tree-step : (e : End) (o : Option (Trie V)) (t u : Trie V) (m n k : ℕ) (q r : List ℕ) → is_canonical t ≡ true
      → TreePath e o m q t n → option_map (λ e. e.1) (end_child e t) ≡ Some u → r ≡ q ++ prefix_of u → k ≡ n + 1
      → TreePath e o m r u k
  tree-step e o t u m n k q r c l h p i =
      let b = child-some (end_child e t) u h in
      let w = IsCanonical-test t c in
      let below = ends-below e b.0 t u w b.1 in
      let s = end-some e (pairs_of u) (some-pairs u below.canonical) in
      let joined : Some l.rest ≡ Some (prefix_of t ++ s.0.0, s.0.1)
      = sym l.here ∙ below.pair ∙ ap (option_map (λ x. (prefix_of t ++ x.0, x.1))) s.1 in
      let same : l.rest ≡ (prefix_of t ++ s.0.0, s.0.1) = cc in
      let key : l.front ++ l.rest.0 ≡ (l.front ++ prefix_of t) ++ s.0.0
      = ap (λ z. l.front ++ z.0) same ∙ sym (append_assoc l.front (prefix_of t) s.0.0) in
      let first = end-first e b.0 s.0 (pairs_of u) (pairs_of-first b.0 u below.first) s.1 in
      record {
        front = l.front ++ prefix_of t;
        rest = s.0;
        path = p ∙ ap (λ z. z ++ prefix_of u) l.path;
        here = s.1;
        whole = l.whole ∙ ap Some (ap (λ z. (l.front ++ z.0, z.1)) same
            ∙ ap (λ k. (k, s.0.1)) (sym (append_assoc l.front (prefix_of t) s.0.0)));
        visits = omega (
          arith,
          i,
          l.visits,
          ap (λ z. entered_nodes z.0 t) same,
          ap (λ k. tree_entered k o) key,
          entered-on b.0 s.0.0 t u w below.found first,
        );
      }

  -- where it ends, the bytes are the key
  pub record TreeEnd (e : End) (o : Option (Trie V)) (m : ℕ) (q : List ℕ) (t : Trie V) (n : ℕ) : Type 0 where
    pub value : V
    pub own : value_of t ≡ Some value
    pub pair : end_of e (tree_pairs o) ≡ Some (q, value)
    pub visits : n ≡ m + probe_count (keys_of (tree_pairs o)) q

  pub tree-end : (e : End) (o : Option (Trie V)) (t : Trie V) (m n : ℕ) (q : List ℕ) → IsCanonicalTree o
      → is_canonical t ≡ true → TreePath e o m q t n → ◌≡◌ {A = Option (Trie V)}
      (option_map (λ e. e.1) (end_child e t)) None → TreeEnd e o m q t n
  tree-end e o t m n q c w l h =
      let here = ends-here e t (IsCanonical-test t w) (child-none (end_child e t) h) in
      let joined : Some l.rest ≡ Some (prefix_of t, here.value) = sym l.here ∙ here.pair in
      let same : l.rest ≡ (prefix_of t, here.value) = cc in
      let key : l.front ++ l.rest.0 ≡ q = ap (λ z. l.front ++ z.0) same ∙ sym l.path in
      record {
        value = here.value;
        own = here.own;
        pair = l.whole ∙ ap Some (ap (λ z. (l.front ++ z.0, z.1)) same ∙ ap (λ k. (k, here.value)) (sym l.path));
        visits = omega (
          arith,
          l.visits,
          ap (λ z. entered_nodes z.0 t) same,
          ap (λ k. tree_entered k o) key,
          entered-here t,
          tree_entered-probe_count q o c,
        );
      }

  -- the child that a visited node shows
  pub end-canonical : (e : End) (b : ℕ) (t u : Trie V) → is_canonical t ≡ true → end_child e t ≡ Some (b, u)
      → is_canonical u ≡ true
  end-canonical e b t u w h = test-IsCanonical u (ends-below e b t u (IsCanonical-test t w) h).canonical

  pub end-falls : (e : End) (t u : Trie V) → is_canonical t ≡ true
      → option_map (λ e. e.1) (end_child e t) ≡ Some u → node_count u < node_count t
  end-falls e t u w h =
      let b = child-some (end_child e t) u h in
      child-falls b.0 t (Some u) (ends-below e b.0 t u (IsCanonical-test t w) b.1).found

  -- a look-up of its key enters few nodes
  pub few-probes : (o : Option (Trie V)) (q : List ℕ) → IsCanonicalTree o
      → probe_count (keys_of (tree_pairs o)) q ≤ length q + 1
  few-probes o q w = omega (arith, few-tree_entered q o w, tree_entered-probe_count q o w)

pub visits-bound : {A : Type 0} (r : Option A) (n n' : ℕ) (m k : A → ℕ) → ((x : A) → m x ≤ k x)
    → MatchOption r (n' ≡ n) (λ x. n' ≡ n + m x) → VisitsAtMost k n r n'
visits-bound None n n' m k h s = s
visits-bound (Some x) n n' m k h s = omega (arith, h x, s)
