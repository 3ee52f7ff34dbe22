-- What a walk over a tree keeps as it begins at a node, continues to one, or leaves a level.
use Rattle.std.proofs.Common.{◌≡◌, ◌≢◌, ℕ, suc, ◌+◌, ◌*◌, ◌<◌, ◌≤◌, ⊎_elim, true, List, [], ◌∷◌, ◌++◌, length}
use Rattle.std.proofs.Common.{take, reverse, ◌⊎◌, inl, inr, Option, Some, None, refl, sym, ap, ◌∙◌, arith}
use Rattle.std.proofs.Common.{length-append, slice_index_or, slice_set}
use Rattle.std.proofs.lemmas.Bool.Decides.{nat_tests}
use Rattle.std.proofs.lemmas.List.{append-nil, append_assoc, length-reverse, map-append, take_all}
use Rattle.rart_trie.specs.tries.CanonicalTest.{is_canonical}
use Rattle.rart_keys.specs.SortedMap.{longest_key}
use Rattle.rart_trie.specs.shapes.Shape.{capacity_of}
use Rattle.rart_trie.specs.walks.Walk.{SegmentList, Grown, IsShort, Level, segments_after, value_at, entries_of}
use Rattle.rart_trie.specs.walks.Walk.{children_entries, entries_below, nodes_below, AreLevels, IsWalk}
use Rattle.rart_nodes.specs.walks.WalkSteps.{DeepestLeft, DeepestStep, PushesLevel}
use Rattle.rart_trie.specs.tries.Trie.{Trie, node, Children, no_children, child, children_in, children_pairs, pairs_of}
use Rattle.rart_trie.specs.tries.Trie.{prefix_of, value_of, AreCanonical, capacity_in, edges_of}
use Rattle.rart_trie.specs.tries.Tree.{tree_pairs}
use Rattle.rart_trie.specs.tries.TrieCode.{node_count, child_count}
use Rattle.rart_trie.proofs.tries.CanonicalTests.{IsCanonical-test, test-IsCanonical, longest_key-append}
use Rattle.rart_trie.proofs.tries.CanonicalTests.{canonical-lower}
use Rattle.rart_trie.proofs.tries.NodeCounts.{some-pairs}
use Rattle.rart_nodes.proofs.walks.PathLemmas.{ArePart, Child, IsPathReserved, Space, child-known, child-pushed}
use Rattle.rart_nodes.proofs.walks.PathLemmas.{child-space, deepest, first-reserved, last-set, level-left, level-pushed}
use Rattle.rart_nodes.proofs.walks.PathLemmas.{no-levels, node-part, take-path}

falls-by : (n m w : ℕ) → 2 * n + 1 + (2 * m + 1 + w) < 2 * (n + 1 + m) + 1 + w
falls-by n m w = omega arith

same-rest : {A : Type 0} (x y : A) (xs ys : List A) → x ∷ xs ≡ y ∷ ys → xs ≡ ys
same-rest x y xs ys e = cc

some-capacity : (n : ℕ) → capacity_of (suc n) ≡ 0 → ⊥
some-capacity n e = grind (arith, nat_tests)

module _ {V : Type 0} where
  -- how much there is to do at most
  abbrev pub work_left : List (Level V) → ℕ
  work_left [] = 0
  work_left (l ∷ ls) = 2 * child_count l.0 + 1 + work_left ls

  -- a tree with a node has pairs
  pub has-pairs : (t : Trie V) (o : Option (Trie V)) → is_canonical t ≡ true → Some t ≡ o → tree_pairs o ≢ []
  has-pairs t o w e f =
      let n : length (pairs_of t) ≡ 0 = ap length (ap tree_pairs e ∙ f) in
      omega (arith, n, some-pairs t (IsCanonical-test t w))

  -- the first child and the others
  pub next-branches : (cs ds : Children V) (b : ℕ) (t : Trie V) → cs ≡ child b t ds → AreCanonical 0 cs
      → (is_canonical t ≡ true) × AreCanonical 0 ds
  next-branches cs ds b t e w = let c = rw e at w in
      (test-IsCanonical t c.2, canonical-lower 0 (suc b) ds (omega arith) c.3)

  pub step-last : (st : List (Level V)) (n : ℕ) (l : Level V) (ds : Children V) (t : Trie V) → n + 1 ≡ length st
      → l ≡ slice_index_or st n l → (b : ℕ) × (l.0 ≡ child b t ds) → DeepestStep st t l.1 (slice_set st n (ds, l.1))
  step-last st n l ds t h e f =
      let r = last-set st n l (ds, l.1) h e in
      record { rest = r.0; edge = f.0; others = ds; was = r.1.0 ∙ ap (λ cs. r.0 ++ (cs, l.1) ∷ []) f.1; is = r.1.1 }

  pub after-none : (es : List (SegmentList × V)) → segments_after [] es ≡ es
  after-none [] = refl
  after-none (e ∷ es) = ap (λ z. e ∷ z) (after-none es)

  pub after-append : (q : SegmentList) (xs ys : List (SegmentList × V))
      → segments_after q (xs ++ ys) ≡ segments_after q xs ++ segments_after q ys
  after-append q xs ys = map-append (λ e. (q ++ e.0, e.1)) xs ys

  pub after-twice : (q p : SegmentList) (es : List (SegmentList × V)) → segments_after q (segments_after p es)
      ≡ segments_after (q ++ p) es
  after-twice q p [] = refl
  after-twice q p (e ∷ es) = rw (append_assoc q p e.0, after-twice q p es) refl

  pub after-own : (q : SegmentList) (v : Option V) (es : List (SegmentList × V))
      → segments_after q (value_at [] v ++ es) ≡ value_at q v ++ segments_after q es
  after-own q None es = refl
  after-own q (Some v) es = ap (λ k. (k, v) ∷ segments_after q es) (append-nil q)

  pub own-entries : (g : Grown) (q : SegmentList) (t : Trie V) → segments_after q (entries_of g t)
      ≡ segments_after (q ++ g (prefix_of t)) (value_at [] (value_of t) ++ children_entries g (children_in t))
  own-entries g q (node p v n ds) = after-twice q (g p) (value_at [] v ++ children_entries g ds)

  -- the value comes first
  own-first : (g : Grown) (q : SegmentList) (t : Trie V) → segments_after q (entries_of g t)
      ≡ value_at (q ++ g (prefix_of t)) (value_of t)
      ++ segments_after (q ++ g (prefix_of t)) (children_entries g (children_in t))
  own-first g q t = own-entries g q t
      ∙ after-own (q ++ g (prefix_of t)) (value_of t) (children_entries g (children_in t))

  -- the entries below the levels of a path don't depend on what it keeps after them
  entries_below-same : (g : Grown) (longest deep d : ℕ) (k p : SegmentList) (ls : List (Level V))
      → AreLevels longest deep ls → deep ≤ d → d ≤ length k → entries_below g (take d k ++ p) ls
      ≡ entries_below g k ls
  entries_below-same g longest deep d k p [] w h l = refl
  entries_below-same g longest deep d k p (x ∷ ls) w h l =
      rw (
        take-path x.1 d k p (omega (arith, w.0)) l,
        entries_below-same g longest x.1 d k p ls w.4 (omega (arith, w.0))
            l,
      ) refl

  -- a level of some of a node's children comes after the others
  pub record LevelPushed (g : Grown) (longest places : ℕ) (k k1 : SegmentList) (ls ms : List (Level V))
      (cs : Children V) : Type 0 where
    pub path : IsWalk longest places k1 ms
    pub still : entries_below g k1 ms ≡ segments_after k1 (children_entries g cs) ++ entries_below g k ls

  pub pushed : (g : Grown) (longest places places1 : ℕ) (k k1 : SegmentList) (t : Trie V) (cs : Children V)
      (st st1 : List (Level V)) → IsShort g → is_canonical t ≡ true → IsWalk longest places k (reverse st)
      → longest < places → IsPathReserved longest k (length st) (Some t) → ArePart 0 cs (children_in t)
      → k1 ≡ k ++ g (prefix_of t) → st1 ≡ st ++ (cs, length k1) ∷ [] → places1 ≡ places
      → LevelPushed g longest places1 k k1 (reverse st) (reverse st1) cs
  pushed g longest places places1 k k1 t cs st st1 s c q r w a i e f =
      let p : SegmentList = g (prefix_of t) in
      rw (deepest st1 st (cs, length k1) e, f, i) (record {
        path = level-pushed g longest places k t cs (reverse st) s c q r
            (w.0, omega (arith, w.1, length-reverse st)) a;
        still = rw (take_all (length (k ++ p)) (k ++ p) (omega arith))
            (ap (λ z. segments_after (k ++ p) (children_entries g cs) ++ z)
            (sym (ap (λ z. entries_below g (z ++ p) (reverse st)) (take_all (length k) k (omega arith)))
            ∙ entries_below-same g longest (length k) (length k) k p (reverse st) q.stations (omega arith)
            (omega arith)));
      })

  -- a walk begins at a node, to which the path is k0
  pub start : (g : Grown) (longest places : ℕ) (t : Trie V) (k0 k : SegmentList) (cs : Children V)
      (st rest : List (Level V)) → IsShort g → is_canonical t ≡ true → length k0 + longest_key (pairs_of t) ≤ longest
      → longest < places → k ≡ k0 ++ g (prefix_of t) → cs ≡ children_in t → rest ≡ [] → st ≡ rest ++ (cs, length k) ∷ []
      → IsWalk longest places k (reverse st)
  start g longest places t k0 k cs st rest h w l r i j e f
      = (pushed g longest places places k0 k t (children_in t) [] st h w
      (no-levels longest places k0 (omega (arith, l))) r (first-reserved longest 0 k0 t w refl l) (node-part t w) i
      (f ∙ ap (λ z. z ++ (cs, length k) ∷ []) e ∙ ap (λ z. (z, length k) ∷ []) j) refl).path

  start-at : (g : Grown) (t : Trie V) (k0 : SegmentList)
      → value_at (k0 ++ g (prefix_of t)) (value_of t) ++ entries_below g (k0 ++ g (prefix_of t))
      ((children_in t, length (k0 ++ g (prefix_of t))) ∷ []) ≡ segments_after k0 (entries_of g t)
  start-at g t k0 = rw (
    take_all (length (k0 ++ g (prefix_of t))) (k0 ++ g (prefix_of t)) (omega arith),
    append-nil (segments_after (k0 ++ g (prefix_of t)) (children_entries g (children_in t))),
  ) (sym (own-first g k0 t))

  pub start-entries : (g : Grown) (t : Trie V) (k0 k : SegmentList) (o : Option V) (cs : Children V)
      (st rest : List (Level V)) → k ≡ k0 ++ g (prefix_of t) → o ≡ value_of t → cs ≡ children_in t → rest ≡ []
      → st ≡ rest ++ (cs, length k) ∷ []
      → value_at k o ++ entries_below g k (reverse st) ≡ segments_after k0 (entries_of g t)
  start-entries g t k0 k o cs st rest i v j e f = rw (deepest st rest (cs, length k) f, e, i, v, j) (start-at g t k0)

  nodes-at : (t : Trie V) → child_count (children_in t) + 0 + 1 ≡ node_count t
  nodes-at (node p v n cs) = omega arith

  pub start-nodes : (t : Trie V) (d : ℕ) (cs : Children V) (st rest : List (Level V)) → cs ≡ children_in t → rest ≡ []
      → st ≡ rest ++ (cs, d) ∷ [] → nodes_below (reverse st) + 1 ≡ node_count t
  start-nodes t d cs st rest j e f = rw (deepest st rest (cs, d) f, e, j) (nodes-at t)

  -- a walk continues from the deepest level to its first child t, after whose prefix the path is k1
  pub record Turn (g : Grown) (longest places : ℕ) (k k1 : SegmentList) (ls ms : List (Level V)) (t : Trie V) : Type 0
    where
      pub path : IsWalk longest places k1 ms
      pub still : entries_below g k ls ≡ value_at k1 (value_of t) ++ entries_below g k1 ms
      pub falls : work_left ms < work_left ls
      pub counted : nodes_below ls ≡ nodes_below ms + 1

  turn-still : (g : Grown) (longest d : ℕ) (k : SegmentList) (t : Trie V) (b : ℕ) (cs : Children V)
      (ls : List (Level V)) → AreLevels longest d ls → d ≤ length k
      → entries_below g k ((child b t cs, d) ∷ ls) ≡ value_at (take d k ++ g (prefix_of t)) (value_of t)
      ++ entries_below g (take d k ++ g (prefix_of t))
      ((children_in t, length (take d k ++ g (prefix_of t))) ∷ (cs, d) ∷ ls)
  turn-still g longest d k t b cs ls w h =
      let p : SegmentList = g (prefix_of t) in
      rw (
        after-append (take d k) (entries_of g t) (children_entries g cs),
        own-first g (take d k) t,
        take_all (length (take d k ++ p)) (take d k ++ p) (omega arith),
        take-path d d k p (omega arith) h,
        entries_below-same g longest d d k p ls w (omega arith) h,
      )
      (simp append_assoc)

  -- what is known of the first child of the deepest level
  first-child : (longest places : ℕ) (k : SegmentList) (d : ℕ) (t : Trie V) (b : ℕ) (cs : Children V)
      (ls : List (Level V)) → IsWalk longest places k ((child b t cs, d) ∷ ls) → Child longest places k d t cs ls
  first-child longest places k d t b cs ls p =
      let w = p.stations.1 in
      let m = longest_key-append (pairs_of t) (children_pairs cs) in
      child-known longest places d b k t cs (child b t cs) ls p w.1 w.2
      (canonical-lower 0 (suc b) cs (omega arith) w.3) (omega (arith, m)) (omega (arith, m))

  work-falls : (t : Trie V) (cs : Children V) (w : ℕ)
      → 2 * child_count (children_in t) + 1 + (2 * child_count cs + 1 + w) < 2 * (node_count t + child_count cs) + 1 + w
  work-falls (node p v n ds) cs w = falls-by (child_count ds) (child_count cs) w

  nodes-fall : (t : Trie V) (m w : ℕ) → node_count t + m + w ≡ child_count (children_in t) + (m + w) + 1
  nodes-fall (node p v n ds) m w = omega arith

  turn-at : (g : Grown) (longest places d : ℕ) (k : SegmentList) (t : Trie V) (b : ℕ) (cs : Children V)
      (ls : List (Level V)) → IsShort g → IsWalk longest places k ((child b t cs, d) ∷ ls)
      → Turn g longest places k (take d k ++ g (prefix_of t)) ((child b t cs, d) ∷ ls)
      ((children_in t, length (take d k ++ g (prefix_of t))) ∷ (cs, d) ∷ ls) t
  turn-at g longest places d k t b cs ls s p =
      let c = first-child longest places k d t b cs ls p in
      record {
        path = child-pushed g longest places d k t cs ls s c;
        still = turn-still g longest d k t b cs ls c.above c.inside;
        falls = work-falls t cs (work_left ls);
        counted = nodes-fall t (child_count cs) (nodes_below ls);
      }

  pub record Left (g : Grown) (longest places : ℕ) (k : SegmentList) (ls rest : List (Level V)) : Type 0 where
    pub path : IsWalk longest places k rest
    pub still : entries_below g k ls ≡ entries_below g k rest
    pub falls : work_left rest < work_left ls
    pub counted : nodes_below ls ≡ nodes_below rest

  leave-at : (g : Grown) (longest places d : ℕ) (k : SegmentList) (rest : List (Level V))
      → IsWalk longest places k ((no_children, d) ∷ rest) → Left g longest places k ((no_children, d) ∷ rest) rest
  leave-at g longest places d k rest q = record {
    path = level-left longest places k (no_children, d) rest q;
    still = refl;
    falls = omega arith;
    counted = omega arith;
  }

  -- the levels before a child is visited
  pub level-before : (d : ℕ) (t : Trie V) (st st1 : List (Level V)) (s : DeepestStep st t d st1)
      → reverse st ≡ (child s.edge t s.others, d) ∷ reverse s.rest
  level-before d t st st1 s = deepest st s.rest (child s.edge t s.others, d) s.was

  -- the child that is visited
  pub next-child : (longest places d : ℕ) (k : SegmentList) (t : Trie V) (st st1 : List (Level V))
      → IsWalk longest places k (reverse st) → (s : DeepestStep st t d st1)
      → Child longest places k d t s.others (reverse s.rest)
  next-child longest places d k t st st1 p s = first-child longest places k d t s.edge s.others (reverse s.rest)
      (rw (level-before d t st st1 s) at p)

  pub space : (longest places d : ℕ) (k : SegmentList) (t : Trie V) (st st1 : List (Level V))
      → IsWalk longest places k (reverse st) → DeepestStep st t d st1 → Space longest places d t (length st1)
  space longest places d k t st st1 p s = child-space longest places d (length st1) k t s.others (reverse s.rest)
      (next-child longest places d k t st st1 p s)
      (omega (arith, ap length s.is, length-append s.rest ((s.others, d) ∷ []), length-reverse s.rest))

  -- a leaf gets no level
  turn-leaf : (g : Grown) (longest places : ℕ) (k k1 : SegmentList) (ls ms : List (Level V)) (cs : Children V)
      (t : Trie V) → cs ≡ no_children → Turn g longest places k k1 ls ((cs, length k1) ∷ ms) t
      → Turn g longest places k k1 ls ms t
  turn-leaf g longest places k k1 ls ms cs t e r =
      let u : Turn g longest places k k1 ls ((no_children, length k1) ∷ ms) t = rw e at r in
      let l = leave-at g longest places (length k1) k1 ms u.path in
      let less : work_left ms < work_left ls = omega (arith, l.falls, u.falls) in
      record { path = l.path; still = u.still; falls = less; counted = omega (arith, u.counted) }

  -- what is on the levels once a child was visited
  pub went : (d n : ℕ) (t : Trie V) (st st1 st2 : List (Level V)) → (s : DeepestStep st t d st1)
      → PushesLevel st1 t n st2 → (reverse st2 ≡ (children_in t, n) ∷ (s.others, d) ∷ reverse s.rest)
      ⊎ ((reverse st2 ≡ (s.others, d) ∷ reverse s.rest) × (children_in t ≡ no_children))
  went d n t st st1 st2 s o =
      let e : reverse st1 ≡ (s.others, d) ∷ reverse s.rest = deepest st1 s.rest (s.others, d) s.is in
      ⊎_elim (λ f. inl (deepest st2 st1 (children_in t, n) f.0 ∙ ap (λ x. (children_in t, n) ∷ x) e))
      (λ f. inr (ap reverse f.0 ∙ e, f.1)) o

  -- a walk continues to a child
  pub turn-either : (g : Grown) (longest places places1 d : ℕ) (k k1 : SegmentList) (t : Trie V)
      (st st1 st2 : List (Level V)) → IsShort g → IsWalk longest places k (reverse st)
      → DeepestStep st t d st1 → k1 ≡ take d k ++ g (prefix_of t) → PushesLevel st1 t (length k1) st2 → places1 ≡ places
      → Turn g longest places1 k k1 (reverse st) (reverse st2) t
  turn-either g longest places places1 d k k1 t st st1 st2 h p s i o m =
      let q : IsWalk longest places k ((child s.edge t s.others, d) ∷ reverse s.rest)
      = rw (level-before d t st st1 s) at p in
      let r : Turn g longest places k k1 ((child s.edge t s.others, d) ∷ reverse s.rest)
      ((children_in t, length k1) ∷ (s.others, d) ∷ reverse s.rest) t
      = rw i (turn-at g longest places d k t s.edge s.others (reverse s.rest) h q) in
      rw (m, level-before d t st st1 s) (⊎_elim (λ f. rw f r) (λ f. rw f.0 (turn-leaf g longest places k k1
      ((child s.edge t s.others, d) ∷ reverse s.rest) ((s.others, d) ∷ reverse s.rest) (children_in t) t f.1 r))
      (went d (length k1) t st st1 st2 s o))

  -- the deepest level is left
  pub left-level : (st st1 rest : List (Level V)) (l : Level V) → DeepestLeft st st1 → st1 ≡ rest ++ l ∷ []
      → (d : ℕ) × (reverse st ≡ (no_children, d) ∷ reverse rest)
  left-level st st1 rest l s e = ⊎_elim
      (λ z. absurd (omega (arith, ap length z, ap length s.same, ap length e, length-append rest (l ∷ []))))
      (λ z. (
        z.1.0,
        deepest st z.0 (no_children, z.1.0) z.1.1
            ∙ ap (λ x. (no_children, z.1.0) ∷ x) (same-rest _ _ _ _ (sym (deepest st z.0 (no_children, z.1.0) z.1.1)
            ∙ ap reverse (sym s.same) ∙ deepest st1 rest l e)),
      )) s.left

  -- a walk leaves a level of which nothing is left, if there is one
  pub leave : (g : Grown) (longest places places1 : ℕ) (k : SegmentList) (st st1 rest : List (Level V)) (l : Level V)
      → IsWalk longest places k (reverse st) → DeepestLeft st st1 → st1 ≡ rest ++ l ∷ [] → places1 ≡ places
      → Left g longest places1 k (reverse st) (reverse rest)
  leave g longest places places1 k st st1 rest l p s e f =
      let z = left-level st st1 rest l s e in
      let q : IsWalk longest places k ((no_children, z.0) ∷ reverse rest) = rw z.1 at p in
      rw (f, z.1) (leave-at g longest places z.0 k (reverse rest) q)

  -- a node of capacity 0 has no children
  pub childless : (t : Trie V) → is_canonical t ≡ true → capacity_in t ≡ 0 → children_in t ≡ no_children
  childless (node p v n no_children) w e = refl
  childless (node p v n (child b t cs)) w e =
      let c : n ≡ capacity_of (length (edges_of (child b t cs))) = (IsCanonical-test (node p v n (child b t cs)) w).1 in
      absurd (some-capacity (length (edges_of cs)) (sym c ∙ e))
