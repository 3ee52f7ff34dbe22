-- What an intersection has given at two nodes and at each pair of their children.
use Rattle.std.proofs.Common.{◌≡◌, ℕ, ◌+◌, ◌<◌, ◌≤◌, min, List, [], ◌∷◌, ◌++◌, length, Option, Some, None, refl, arith}
use Rattle.std.proofs.Common.{ap, false, subst, sym, ◌∙◌, Result, Ok, Err}
use Rattle.std.proofs.lemmas.List.{append-nil, append_assoc, length-map}
use Rattle.std.specs.Bool.{IsTrue}
use Rattle.std.specs.List.{FoldsTo}
use Rattle.std.specs.Result.{is_ok}
use Rattle.rart_keys.specs.Joins.{both}
use Rattle.rart_keys.specs.SortedMap.{longest_key, values_of}
use Rattle.rart_nodes.specs.joins.Intersections.{intersect_nodes}
use Rattle.rart_nodes.specs.joins.Visitors.{AreVisitors, CanDeeper, CanGive, CountedOn, GivenFirst, most_count}
use Rattle.rart_trie.specs.tries.PrefixLaws.{prefix-append, prefix-none}
use Rattle.rart_nodes.specs.joins.JoinPaths.{Kept, PathGrown, PathCut, path_mark}
use Rattle.rart_nodes.specs.joins.SharedEdges.{more_visits}
use Rattle.rart_nodes.specs.joins.SharedChildren.{IsAligned, intersect_all, shared_child_if, shared_right, visits_all}
use Rattle.rart_trie.specs.tries.Trie.{Trie, node, Children, no_children, child, children_in, children_pairs, child_in}
use Rattle.rart_trie.specs.tries.Trie.{own_pair, pairs_of, value_of, with_prefix}
use Rattle.rart_trie.specs.tries.TrieCode.{child_count, node_count}
use Rattle.rart_nodes.proofs.joins.AlignmentLemmas.{longest-child, some-count}
use Rattle.rart_nodes.proofs.joins.JoinPathLemmas.{path-on, path-back}
use Rattle.rart_trie.proofs.tries.StepLemmas.{child-falls}

-- a count of pairs, up to the most
counted-is : {X : Type 0} (n m : ℕ) (es : List X) → n ≤ most_count → FoldsTo (λ p x q. CountedOn p x q) n es m
    → m ≡ min (n + length es) most_count
counted-is n m [] h f = omega (arith, f)
counted-is n m (e ∷ es) h f = omega (arith, f.1, counted-is f.0 m es (omega (arith, f.1)) f.2)

-- from none on, of pairs given by their values
pub count-is : {X : Type 0} (m : ℕ) (es : List (List ℕ × X)) → FoldsTo (λ p x q. CountedOn p x q) 0 (values_of es) m
    → m ≡ min (length es) most_count
count-is m es f = omega (arith, counted-is 0 m (values_of es) (omega arith) f, length-map es (λ e. e.1))

-- a walk that its first pair ends goes through where there is none
pub first-decides : {F X : Type 0} (s : Kept) (f g : F) (es : List (List ℕ × X)) (r : Result (Unit {0}) (Unit {0}))
    → GivenFirst s f es r g → (IsTrue (is_ok r) → length es ≡ 0) × (length es ≡ 0 → IsTrue (is_ok r))
first-decides s f g [] r h = (λ t. refl, λ e. rw h.0 refl)
first-decides s f g (e ∷ es) r h =
    let not : is_ok r ≡ false = rw h.0 refl in
    (λ t. absurd (cc), λ n. absurd (omega (arith, n)))

-- given with whole keys, where nothing of the path was kept before
pub given-whole : {F X : Type 0} (r : F → List ℕ × X → F → Type 0) (k : List ℕ) (f g : F) (es : List (List ℕ × X))
    → k ≡ [] → FoldsTo r f (with_prefix k es) g → FoldsTo r f es g
given-whole {F} {X} r k f g es e h = subst (λ (z : List (List ℕ × X)). FoldsTo r f z g) (ap (λ z. with_prefix z es) e
    ∙ prefix-none es) h

module _ {V W : Type 0} where
  -- the pairs have fewer than n nodes, and no key on their left is longer than m
  abbrev pub AreWithin : ℕ → ℕ → List (Trie V × Trie W) → Type 0
  AreWithin n m [] = Unit {0}
  AreWithin n m (p ∷ ps) = (node_count p.0 + node_count p.1 < n) × (longest_key (pairs_of p.0) ≤ m) × AreWithin n m ps

  shared_child-within : (n m : ℕ) (o : Option (Trie V)) (u : Trie W) (ps : List (Trie V × Trie W))
      → ((z : Trie V) → o ≡ Some z → (node_count z + node_count u < n) × (longest_key (pairs_of z) ≤ m))
      → AreWithin n m ps → AreWithin n m (shared_child_if (both o (Some u)) ps)
  shared_child-within n m None u ps h k = k
  shared_child-within n m (Some z) u ps h k = ((h z refl).0, (h z refl).1, k)

  each-within : (n : ℕ) (t : Trie V) (ds : Children W) → node_count t + child_count ds ≤ n
      → AreWithin n (longest_key (children_pairs (children_in t))) (shared_right t ds)
  each-within n t no_children h = tt
  each-within n t (child b u ds) h = shared_child-within n (longest_key (children_pairs (children_in t))) (child_in b t)
      u (shared_right t ds)
      (λ z e. (omega (arith, child-falls b t (Some z) e), longest-child b t z e))
      (each-within n t ds (omega (arith, some-count u)))

  pub shared_children-within : (n : ℕ) (t : Trie V) (u : Trie W) → node_count t + node_count u ≤ n
      → AreWithin n (longest_key (children_pairs (children_in t))) (shared_right t (children_in u))
  shared_children-within n t (node q w m ds) h = each-within n t ds (omega arith)

  -- the first pair, and the others
  pub record Next (ps : List (Trie V × Trie W)) (t : Trie V) (u : Trie W) (qs : List (Trie V × Trie W)) (n m : ℕ) : Type
      0 where
    pub falls : node_count t + node_count u < n
    pub short : longest_key (pairs_of t) ≤ m
    pub others : AreWithin n m qs
    pub visits : visits_all ps ≡ 1 + more_visits t u + visits_all qs
    pub fewer : length qs < length ps

  pub next-shared_children : (ps : List (Trie V × Trie W)) (t : Trie V) (u : Trie W) (qs : List (Trie V × Trie W))
      (n m : ℕ) → ps ≡ (t, u) ∷ qs → AreWithin n m ps → Next ps t u qs n m
  next-shared_children ps t u qs n m e h =
      let h' : AreWithin n m ((t, u) ∷ qs) = subst (λ (z : List (Trie V × Trie W)). AreWithin n m z) e h in
      record { falls = h'.0; short = h'.1; others = h'.2; visits = ap visits_all e; fewer = omega (arith, ap length e) }

  module _ {F B : Type 0} (reserved : Kept → ℕ → Type 0) (given : Kept → F → List (List ℕ × (V × W))
      → Result (Unit {0}) B → F → Type 0) (laws : AreVisitors reserved given) where
    -- what was given at the same place
    given-here : (s t : Kept) (f g : F) (es : List (List ℕ × (V × W))) (r : Result (Unit {0}) B) → PathGrown s [] t
        → given t f es r g → given s f es r g
    given-here s t f g es r h k = subst (λ (z : List (List ℕ × (V × W))). given s f z r g) (prefix-none es)
        (laws.gives_after s t [] f g es r h k)

    pub given-next : (s t : Kept) (f g h : F) (r : Result (Unit {0}) B) (ps : List (Trie V × Trie W)) (a : Trie V)
        (b : Trie W) (qs : List (Trie V × Trie W)) → ps ≡ (a, b) ∷ qs → PathGrown s [] t
        → given t f (intersect_nodes a b) (Ok tt) g → given s g (intersect_all qs) r h
        → given s f (intersect_all ps) r h
    given-next s t f g h r ps a b qs e w i j = rw e
        (laws.gives_more s f g h (intersect_nodes a b) (intersect_all qs) r
        (given-here s t f g (intersect_nodes a b) (Ok tt) w i) j)

    -- the walk ended at the first two
    pub given-end : (s t : Kept) (f g : F) (u : B) (ps : List (Trie V × Trie W)) (a : Trie V) (b : Trie W)
        (qs : List (Trie V × Trie W)) → ps ≡ (a, b) ∷ qs → PathGrown s [] t → given t f (intersect_nodes a b) (Err u) g
        → given s f (intersect_all ps) (Err u) g
    given-end s t f g u ps a b qs e w i = rw e (laws.gives_end s f g (intersect_nodes a b) (intersect_all qs) u
        (given-here s t f g (intersect_nodes a b) (Err u) w i))

    pub given-aligned : (s t : Kept) (f g h : F) (r : Result (Unit {0}) B) (x : Trie V) (y : Trie W) (p : List ℕ)
        (a : Trie V) (b : Trie W) → IsAligned x y p a b → PathGrown s p t
        → given t f (own_pair (both (value_of a) (value_of b))) (Ok tt) g
        → given t g (intersect_all (shared_right a (children_in b))) r h → given s f (intersect_nodes x y) r h
    given-aligned s t f g h r x y p a b k w i j
        = rw k.given (laws.gives_after s t p f h _ r w (laws.gives_more t f g h _ _ r i j))

    -- the walk ended at the two nodes
    pub given-ended : (s t : Kept) (f g : F) (u : B) (x : Trie V) (y : Trie W) (p : List ℕ) (a : Trie V) (b : Trie W)
        → IsAligned x y p a b → PathGrown s p t → given t f (own_pair (both (value_of a) (value_of b))) (Err u) g
        → given s f (intersect_nodes x y) (Err u) g
    given-ended s t f g u x y p a b k w i
        = rw k.given (laws.gives_after s t p f g _ (Err u) w (laws.gives_end t f g _ _ u i))

    -- the two nodes have no child in common
    pub given-leaves : (s t : Kept) (f g : F) (r : Result (Unit {0}) B) (x : Trie V) (y : Trie W) (p : List ℕ)
        (a : Trie V) (b : Trie W) → IsAligned x y p a b → PathGrown s p t → children_in b ≡ no_children
        → given t f (own_pair (both (value_of a) (value_of b))) r g → given s f (intersect_nodes x y) r g
    given-leaves s t f g r x y p a b k w n i =
        let own : List (List ℕ × (V × W)) = own_pair (both (value_of a) (value_of b)) in
        rw (k.given, n) (laws.gives_after s t p f g (own ++ []) r w
        (subst (λ (z : List (List ℕ × (V × W))). given t f z r g) (sym (append-nil own)) i))

    pub same-reserved : (s t : Kept) (m n : ℕ) → PathGrown s [] t → reserved s m → n ≤ m → reserved t n
    same-reserved s t m n h k i = laws.keeps_reserved s t [] m n h k (omega arith)

    -- whom pairs may be given
    module _ (can : Kept → F → List ℕ × (V × W) → Type 0) where
      pub can-one : (s : Kept) (f : F) (x : List ℕ × (V × W)) → CanGive can given s f (x ∷ []) → can s f x
      can-one s f x h = h.at [] x [] f refl (laws.gives_none s f)

      pub can-start : (s : Kept) (f : F) (xs ys : List (List ℕ × (V × W))) → CanGive can given s f (xs ++ ys)
          → CanGive can given s f xs
      can-start s f xs ys h = record {
        at = λ before x after g e k. h.at before x (after ++ ys) g (ap (λ z. z ++ ys) e
            ∙ append_assoc before (x ∷ after) ys) k;
      }

      pub can-rest : (s : Kept) (f g : F) (xs ys : List (List ℕ × (V × W))) → CanGive can given s f (xs ++ ys)
          → given s f xs (Ok tt) g → CanGive can given s g ys
      can-rest s f g xs ys h r = record {
        at = λ before x after j e k. h.at (xs ++ before) x after j
            (ap (λ z. xs ++ z) e ∙ sym (append_assoc xs before (x ∷ after)))
            (laws.gives_more s f g j xs before (Ok tt) r k);
      }

      module _ (deeper : CanDeeper can) where
        can-after : (s t : Kept) (p : List ℕ) (f : F) (es : List (List ℕ × (V × W))) → PathGrown s p t
            → CanGive can given s f (with_prefix p es) → CanGive can given t f es
        can-after s t p f es w h = record {
          at = λ before x after g e k. deeper s t p g x w
              (h.at (with_prefix p before) (p ++ x.0, x.1) (with_prefix p after) g (ap (λ z. with_prefix p z) e
              ∙ prefix-append p before (x ∷ after)) (laws.gives_after s t p f g before (Ok tt) w k));
        }

        pub can-aligned : (s t : Kept) (f : F) (x : Trie V) (y : Trie W) (p : List ℕ) (a : Trie V) (b : Trie W)
            → IsAligned x y p a b → PathGrown s p t → CanGive can given s f (intersect_nodes x y)
            → CanGive can given t f (own_pair (both (value_of a) (value_of b))
            ++ intersect_all (shared_right a (children_in b)))
        can-aligned s t f x y p a b k w h = can-after s t p f _ w
            (subst (λ (z : List (List ℕ × (V × W))). CanGive can given s f z) k.given h)

        -- the first two, and then the others
        pub can-next : (s t : Kept) (f : F) (ps : List (Trie V × Trie W)) (a : Trie V) (b : Trie W)
            (qs : List (Trie V × Trie W)) → ps ≡ (a, b) ∷ qs → PathGrown s [] t
            → CanGive can given s f (intersect_all ps) → CanGive can given t f (intersect_nodes a b)
        can-next s t f ps a b qs e w h =
            let first : CanGive can given s f (intersect_nodes a b)
            = can-start s f (intersect_nodes a b) (intersect_all qs)
            (subst (λ (z : List (Trie V × Trie W)). CanGive can given s f (intersect_all z)) e h) in
            can-after s t [] f (intersect_nodes a b) w
            (subst (λ (z : List (List ℕ × (V × W))). CanGive can given s f z)
            (sym (prefix-none (intersect_nodes a b))) first)

        pub can-others : (s t : Kept) (f g : F) (ps : List (Trie V × Trie W)) (a : Trie V) (b : Trie W)
            (qs : List (Trie V × Trie W)) → ps ≡ (a, b) ∷ qs → PathGrown s [] t
            → given t f (intersect_nodes a b) (Ok tt) g → CanGive can given s f (intersect_all ps)
            → CanGive can given s g (intersect_all qs)
        can-others s t f g ps a b qs e w i h = can-rest s f g (intersect_nodes a b) (intersect_all qs)
            (subst (λ (z : List (Trie V × Trie W)). CanGive can given s f (intersect_all z)) e h)
            (given-here s t f g (intersect_nodes a b) (Ok tt) w i)

-- a path that grows and is cut back
pub back-again : (s t u v : Kept) (p : List ℕ) (m : ℕ) → m ≡ path_mark s → PathGrown s p t → PathGrown t [] u
    → PathCut m u v → PathGrown s [] v
back-again s t u v p m e h i j = path-back s u v (p ++ []) (path-on s t u p [] h i) (rw (← e) j)
