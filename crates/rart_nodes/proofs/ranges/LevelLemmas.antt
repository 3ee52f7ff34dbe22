-- What a descending walk keeps as it begins at a node, continues to one, or leaves a level.
use Rattle.std.proofs.Common.{◌≡◌, ℕ, ◌+◌, ◌<◌, ◌≤◌, ⊎_elim, max, true, List, [], ◌∷◌, ◌++◌, length}
use Rattle.std.proofs.Common.{map, take, reverse, Option, Some, refl, sym, ap, ◌∙◌, arith, length-append}
use Rattle.std.proofs.Common.{slice_index_or, slice_set}
use Rattle.std.specs.Borrow.{Bor}
use Rattle.std.specs.Option.{option_copied}
use Rattle.std.proofs.lemmas.List.{append-nil, append_assoc, length-map, length-reverse, take_all}
use Rattle.rart_keys.specs.SortedMap.{longest_key}
use Rattle.rart_nodes.specs.ranges.DescendingWalk.{DescendingLevel, DescendingLeft, DescendingStep, IsDescendingWalk}
use Rattle.rart_nodes.specs.ranges.DescendingWalk.{PushesNode, remaining_entries}
use Rattle.rart_trie.specs.ranges.Under.{with_last}
use Rattle.rart_trie.specs.tries.CanonicalTest.{is_canonical}
use Rattle.rart_trie.specs.tries.Trie.{Trie, node, Children, no_children, children_in, children_pairs, pairs_of}
use Rattle.rart_trie.specs.tries.Trie.{prefix_of, value_of}
use Rattle.rart_trie.specs.tries.TrieCode.{child_count, node_count}
use Rattle.rart_trie.specs.walks.Walk.{SegmentList, Grown, IsShort, IsWalk, Level, AreLevels, children_entries}
use Rattle.rart_trie.specs.walks.Walk.{entries_of, segments_after, value_at}
use Rattle.rart_trie.proofs.storages.UnderLemmas.{count-last, entries-last, last-canonical, pairs-last}
use Rattle.rart_trie.proofs.tries.CanonicalTests.{longest_key-append}
use Rattle.rart_nodes.proofs.walks.PathLemmas.{ArePart, Child, IsPathReserved, Space, child-known, child-pushed}
use Rattle.rart_nodes.proofs.walks.PathLemmas.{child-space, cut-to, deepest, first-reserved, last-set, level-left}
use Rattle.rart_nodes.proofs.walks.PathLemmas.{level-pushed, no-levels, node-part, take-path}
use Rattle.rart_nodes.proofs.walks.WalkLemmas.{after-append, after-own, own-entries, work_left}

module _ {V : Type 0} where
  pub step-last : (st : List (DescendingLevel V)) (n : ℕ) (l : DescendingLevel V) (ds : Children V) (t : Trie V)
      → n + 1 ≡ length st
      → l ≡ slice_index_or st n l → (b : ℕ) × (l.0.0 ≡ with_last ds b t)
      → DescendingStep st t l.0.1 (slice_set st n ((ds, l.0.1), l.1))
  step-last st n l ds t h e f =
      let r = last-set st n l ((ds, l.0.1), l.1) h e in
      record {
        rest = r.0;
        edge = f.0;
        others = ds;
        value = l.1;
        was = r.1.0 ∙ ap (λ cs. r.0 ++ ((cs, l.0.1), l.1) ∷ []) f.1;
        is = r.1.1;
      }

  -- the levels alone
  abbrev pub levels_of : List (DescendingLevel V) → List (Level V)
  levels_of ls = map (λ l. l.0) ls

  length-levels : (st : List (DescendingLevel V)) → length (levels_of (reverse st)) ≡ length st
  length-levels st = length-map (reverse st) (λ l. l.0) ∙ length-reverse st

  -- how much there is to do at most
  abbrev pub work_after : List (DescendingLevel V) → ℕ
  work_after ls = work_left (levels_of ls)

  node-nodes : (t : Trie V) → node_count t ≡ child_count (children_in t) + 1
  node-nodes (node p v n cs) = refl

  -- the values that remain at the levels of a path depend only on what it keeps above them
  remaining-same : (g : Grown) (longest deep d : ℕ) (k p : SegmentList) (ls : List (DescendingLevel V))
      → AreLevels longest deep (levels_of ls) → deep ≤ d → d ≤ length k → remaining_entries g (take d k ++ p) ls
      ≡ remaining_entries g k ls
  remaining-same g longest deep d k p [] w h l = refl
  remaining-same g longest deep d k p (x ∷ ls) w h l =
      rw (
        take-path x.0.1 d k p (omega (arith, w.0)) l,
        remaining-same g longest x.0.1 d k p ls w.4 (omega (arith, w.0))
            l,
      ) refl

  -- a level of some of a node's children, with a value, comes after the others
  pub record DescendingLevelPushed (g : Grown) (longest places : ℕ) (k k1 : SegmentList)
      (ls ms : List (DescendingLevel V))
      (cs : Children V) (v : Option (Bor V)) : Type 0 where
    pub path : IsDescendingWalk longest places k1 ms
    pub still : remaining_entries g k1 ms
        ≡ remaining_entries g k ls ++ segments_after k1 (value_at [] (option_copied v) ++ children_entries g cs)

  pub pushed : (g : Grown) (longest places places1 : ℕ) (k k1 : SegmentList) (t : Trie V) (cs : Children V)
      (v : Option (Bor V)) (st st1 : List (DescendingLevel V)) → IsShort g → is_canonical t ≡ true
      → IsDescendingWalk longest places k (reverse st) → longest < places
      → IsPathReserved longest k (length st) (Some t)
      → ArePart 0 cs (children_in t) → k1 ≡ k ++ g (prefix_of t) → st1 ≡ st ++ ((cs, length k1), v) ∷ []
      → places1 ≡ places → DescendingLevelPushed g longest places1 k k1 (reverse st) (reverse st1) cs v
  pushed g longest places places1 k k1 t cs v st st1 s c q r w a i e f =
      let p : SegmentList = g (prefix_of t) in
      rw (deepest st1 st ((cs, length k1), v) e, f, i) (record {
        path = level-pushed g longest places k t cs (levels_of (reverse st)) s c q r
            (w.0, omega (arith, w.1, length-levels st)) a;
        still = rw (take_all (length (k ++ p)) (k ++ p) (omega arith))
            (ap (λ z. z ++ segments_after (k ++ p) (value_at [] (option_copied v) ++ children_entries g cs))
            (sym (ap (λ z. remaining_entries g (z ++ p) (reverse st)) (take_all (length k) k (omega arith)))
            ∙ remaining-same g longest (length k) (length k) k p (reverse st) q.stations (omega arith)
            (omega arith)));
      })

  -- a walk begins at a node, to which the path is k0
  pub start : (g : Grown) (longest places : ℕ) (t : Trie V) (k0 k : SegmentList) (v : Option (Bor V)) (cs : Children V)
      (st rest : List (DescendingLevel V)) → IsShort g → is_canonical t ≡ true
      → length k0 + longest_key (pairs_of t) ≤ longest → longest < places → k ≡ k0 ++ g (prefix_of t)
      → cs ≡ children_in t → rest ≡ [] → st ≡ rest ++ ((cs, length k), v) ∷ []
      → IsDescendingWalk longest places k (reverse st)
  start g longest places t k0 k v cs st rest h w l r i j e f
      = (pushed g longest places places k0 k t (children_in t) v [] st h w
      (no-levels longest places k0 (omega (arith, l))) r (first-reserved longest 0 k0 t w refl l) (node-part t w) i
      (f ∙ ap (λ z. z ++ ((cs, length k), v) ∷ []) e ∙ ap (λ z. ((z, length k), v) ∷ []) j) refl).path

  start-at : (g : Grown) (t : Trie V) (k0 : SegmentList) (v : Option (Bor V)) → option_copied v ≡ value_of t
      → remaining_entries g (k0 ++ g (prefix_of t)) (((children_in t, length (k0 ++ g (prefix_of t))), v) ∷ [])
      ≡ segments_after k0 (entries_of g t)
  start-at g t k0 v e =
      rw (take_all (length (k0 ++ g (prefix_of t))) (k0 ++ g (prefix_of t)) (omega arith), e)
      (sym (own-entries g k0 t))

  pub start-entries : (g : Grown) (t : Trie V) (k0 k : SegmentList) (v : Option (Bor V)) (cs : Children V)
      (st rest : List (DescendingLevel V)) → k ≡ k0 ++ g (prefix_of t) → option_copied v ≡ value_of t
      → cs ≡ children_in t
      → rest ≡ [] → st ≡ rest ++ ((cs, length k), v) ∷ []
      → remaining_entries g k (reverse st) ≡ segments_after k0 (entries_of g t)
  start-entries g t k0 k v cs st rest i h j e f = rw (deepest st rest ((cs, length k), v) f, e, i, j)
      (start-at g t k0 v h)

  -- what is known of the last child of the deepest level
  last-child : (longest places : ℕ) (k : SegmentList) (d : ℕ) (t : Trie V) (b : ℕ) (cs : Children V)
      (ls : List (Level V)) → IsWalk longest places k ((with_last cs b t, d) ∷ ls) → Child longest places k d t cs ls
  last-child longest places k d t b cs ls p =
      let c = last-canonical 0 b t cs p.stations.1 in
      let m : longest_key (children_pairs (with_last cs b t)) ≡ max (longest_key (children_pairs cs))
      (longest_key (pairs_of t)) = ap longest_key (pairs-last b t cs) ∙ longest_key-append (children_pairs cs)
      (pairs_of t) in
      child-known longest places d b k t cs (with_last cs b t) ls p c.1 c.2 c.0 (omega (arith, m)) (omega (arith, m))

  -- a walk continues from the deepest level to its last child, after whose prefix the path is k1
  pub record DescendingTurn (g : Grown) (longest places : ℕ) (k k1 : SegmentList) (ls ms : List (DescendingLevel V))
      : Type 0 where
    pub path : IsDescendingWalk longest places k1 ms
    pub still : remaining_entries g k1 ms ≡ remaining_entries g k ls
    pub falls : work_after ms < work_after ls

  turn-still : (g : Grown) (longest d : ℕ) (k : SegmentList) (t : Trie V) (b : ℕ) (cs : Children V)
      (u v : Option (Bor V)) (ls : List (DescendingLevel V)) → AreLevels longest d (levels_of ls) → d ≤ length k
      → option_copied u ≡ value_of t
      → remaining_entries g (take d k ++ g (prefix_of t))
      (((children_in t, length (take d k ++ g (prefix_of t))), u) ∷ ((cs, d), v) ∷ ls)
      ≡ remaining_entries g k (((with_last cs b t, d), v) ∷ ls)
  turn-still g longest d k t b cs u v ls w h e =
      let q : SegmentList = take d k in
      let remaining : List (SegmentList × V) = remaining_entries g k ls in
      let own : List (SegmentList × V) = value_at [] (option_copied v) in
      let before : List (SegmentList × V) = own ++ children_entries g cs in
      let new : List (SegmentList × V) = segments_after (q ++ g (prefix_of t))
      (value_at [] (value_of t) ++ children_entries g (children_in t)) in
      rw (
        take_all (length (q ++ g (prefix_of t))) (q ++ g (prefix_of t)) (omega arith),
        take-path d d k (g (prefix_of t)) (omega arith) h,
        remaining-same g longest d d k (g (prefix_of t)) ls w (omega arith) h,
        e,
      )
      (append_assoc remaining (segments_after q before) new
      ∙ ap (λ z. remaining ++ z) (ap (λ z. segments_after q before ++ z) (sym (own-entries g q t))
      ∙ sym (after-append q before (entries_of g t))
      ∙ ap (segments_after q) (append_assoc own (children_entries g cs) (entries_of g t)
      ∙ ap (λ z. own ++ z) (sym (entries-last g b t cs)))))

  -- the levels before a child is visited
  pub level-before : (d : ℕ) (t : Trie V) (st st1 : List (DescendingLevel V)) (s : DescendingStep st t d st1)
      → reverse st ≡ ((with_last s.others s.edge t, d), s.value) ∷ reverse s.rest
  level-before d t st st1 s = deepest st s.rest ((with_last s.others s.edge t, d), s.value) s.was

  -- the child that is visited
  pub next-child : (longest places d : ℕ) (k : SegmentList) (t : Trie V) (st st1 : List (DescendingLevel V))
      → IsDescendingWalk longest places k (reverse st) → (s : DescendingStep st t d st1)
      → Child longest places k d t s.others (levels_of (reverse s.rest))
  next-child longest places d k t st st1 p s
      = last-child longest places k d t s.edge s.others (levels_of (reverse s.rest))
      (rw (level-before d t st st1 s) at p)

  pub space : (longest places d : ℕ) (k : SegmentList) (t : Trie V) (st st1 : List (DescendingLevel V))
      → IsDescendingWalk longest places k (reverse st) → DescendingStep st t d st1
      → Space longest places d t (length st1)
  space longest places d k t st st1 p s
      = child-space longest places d (length st1) k t s.others (levels_of (reverse s.rest))
      (next-child longest places d k t st st1 p s)
      (omega (arith, ap length s.is, length-append s.rest (((s.others, d), s.value) ∷ []), length-levels s.rest))

  pub turn : (g : Grown) (longest places places1 d : ℕ) (k k1 : SegmentList) (t : Trie V)
      (st st1 st2 : List (DescendingLevel V)) → IsShort g → IsDescendingWalk longest places k (reverse st)
      → DescendingStep st t d st1 → k1 ≡ take d k ++ g (prefix_of t) → PushesNode st1 t (length k1) st2
      → places1 ≡ places
      → DescendingTurn g longest places1 k k1 (reverse st) (reverse st2)
  turn g longest places places1 d k k1 t st st1 st2 h p s i o m =
      let c = next-child longest places d k t st st1 p s in
      let e : reverse st2 ≡ ((children_in t, length k1), o.0) ∷ ((s.others, d), s.value) ∷ reverse s.rest
      = deepest st2 st1 ((children_in t, length k1), o.0) o.1.0
      ∙ ap (λ x. ((children_in t, length k1), o.0) ∷ x) (deepest st1 s.rest ((s.others, d), s.value) s.is) in
      rw (m, e, level-before d t st st1 s, i) (record {
        path = child-pushed g longest places d k t s.others (levels_of (reverse s.rest)) h c;
        still = turn-still g longest d k t s.edge s.others o.0 s.value (reverse s.rest) c.above c.inside o.1.1;
        falls = omega (arith, count-last s.edge t s.others, node-nodes t);
      })

  -- the level that was left had no more children
  pub left-level : (st st1 rest : List (DescendingLevel V)) (l : DescendingLevel V) → DescendingLeft st st1
      → st1 ≡ rest ++ l ∷ []
      → (reverse st ≡ l ∷ reverse rest) × (l.0.0 ≡ no_children)
  left-level st st1 rest l s e =
      let here : reverse st ≡ l ∷ reverse rest = ap reverse (sym s.same) ∙ deepest st1 rest l e in
      ⊎_elim
      (λ z. absurd (omega (arith, ap length z, ap length s.same, ap length e, length-append rest (l ∷ []))))
      (λ z. let there : reverse st ≡ z.1.0 ∷ reverse z.0 = deepest st z.0 z.1.0 z.1.1.0 in
      let same : z.1.0 ∷ reverse z.0 ≡ l ∷ reverse rest = sym there ∙ here in
      let one : z.1.0 ≡ l = cc in
      (here, ap (λ x. x.0.0) (sym one) ∙ z.1.1.1)) s.left

  -- a walk leaves a level, whose node's value comes then
  pub record DescendingLeave (g : Grown) (longest places : ℕ) (k k1 : SegmentList) (ls rest : List (DescendingLevel V))
      (v : Option V) : Type 0 where
    pub path : IsDescendingWalk longest places k1 rest
    pub still : remaining_entries g k ls ≡ remaining_entries g k1 rest ++ value_at k1 v
    pub falls : work_after rest < work_after ls

  leave-at : (g : Grown) (longest places d : ℕ) (k : SegmentList) (v : Option (Bor V)) (ls : List (DescendingLevel V))
      → IsDescendingWalk longest places k (((no_children, d), v) ∷ ls)
      → DescendingLeave g longest places k (take d k) (((no_children, d), v) ∷ ls) ls (option_copied v)
  leave-at g longest places d k v ls p =
      let w = p.stations in
      let same : remaining_entries g (take d k) ls ≡ remaining_entries g k ls
      = ap (λ z. remaining_entries g z ls) (sym (append-nil (take d k)))
      ∙ remaining-same g longest d d k [] ls w.4 (omega arith) w.0 in
      record {
        path = level-left longest places (take d k) (no_children, d) (levels_of ls)
            (cut-to longest places d k no_children no_children (levels_of ls) tt (omega arith) p);
        still = ap (λ z. remaining_entries g k ls ++ z) (after-own (take d k) (option_copied v) []
            ∙ append-nil (value_at (take d k) (option_copied v)))
            ∙ ap (λ z. z ++ value_at (take d k) (option_copied v)) (sym same);
        falls = omega arith;
      }

  leave-one : (g : Grown) (longest places : ℕ) (k k1 : SegmentList) (l : DescendingLevel V) (cs : Children V)
      (ls : List (DescendingLevel V)) → IsDescendingWalk longest places k (l ∷ ls) → l.0.0 ≡ cs → cs ≡ no_children
      → k1 ≡ take l.0.1 k → DescendingLeave g longest places k k1 (l ∷ ls) ls (option_copied l.1)
  leave-one g longest places k k1 l cs ls p e f i =
      let same : l ≡ ((no_children, l.0.1), l.1) = ap (λ z. ((z, l.0.1), l.1)) (e ∙ f) in
      let q : IsDescendingWalk longest places k (((no_children, l.0.1), l.1) ∷ ls) = rw (e ∙ f) at p in
      rw (i, e ∙ f) (leave-at g longest places l.0.1 k l.1 ls q)

  pub leave : (g : Grown) (longest places places1 : ℕ) (k k1 : SegmentList) (st st1 rest : List (DescendingLevel V))
      (l : DescendingLevel V) → IsDescendingWalk longest places k (reverse st) → DescendingLeft st st1
      → st1 ≡ rest ++ l ∷ []
      → k1 ≡ take l.0.1 k → places1 ≡ places
      → DescendingLeave g longest places1 k k1 (reverse st) (reverse rest) (option_copied l.1)
  leave g longest places places1 k k1 st st1 rest l p s e i f =
      let h = left-level st st1 rest l s e in
      let q : IsDescendingWalk longest places k (l ∷ reverse rest) = rw h.0 at p in
      rw (f, h.0) (leave-one g longest places k k1 l no_children (reverse rest) q h.1 refl i)
