-- The levels of a path as it continues to a node, for walks in both directions.
use Rattle.std.proofs.Common.{◌≡◌, ℕ, zero, suc, ◌+◌, ◌<◌, ◌≤◌, ⊎_elim, Bool, true, false, cond, eqb, ltb, List, []}
use Rattle.std.proofs.Common.{◌∷◌, ◌++◌}
use Rattle.std.proofs.Common.{length, length-append, take, reverse, Option, Some, None, refl, sym, ap, ◌∙◌, arith}
use Rattle.std.proofs.Common.{slice_index_or, slice_set}
use Rattle.std.proofs.lemmas.List.{length-take, reverse-append, take-append-le, take-take}
use Rattle.rart_keys.specs.SortedMap.{longest_key}
use Rattle.rart_keys.specs.KeyBytes.{IsWithin}
use Rattle.rart_trie.proofs.edits.InsertLemmas.{fewer-within}
use Rattle.rart_trie.specs.ranges.Starts.{children_above}
use Rattle.rart_trie.specs.ranges.Under.{children_before, children_under}
use Rattle.rart_nodes.specs.ranges.Steps.{children_after}
use Rattle.rart_trie.specs.stats.Stats.{children_height}
use Rattle.rart_trie.specs.tries.CanonicalTest.{is_canonical}
use Rattle.rart_trie.specs.tries.Trie.{Trie, node, Children, no_children, child, children_in, children_pairs, pairs_of}
use Rattle.rart_trie.specs.tries.Trie.{prefix_of, child_of, child_in, StartsWith, IsCanonical, AreCanonical}
use Rattle.rart_trie.specs.tries.TrieCode.{node_count}
use Rattle.rart_trie.specs.walks.Walk.{SegmentList, Grown, KeepsEach, IsReserved, IsShort, IsKeyWalk, IsWalk, Level}
use Rattle.rart_trie.specs.walks.Walk.{AreLevels, tree_count}
use Rattle.rart_trie.proofs.tries.CanonicalTests.{IsCanonical-test, test-IsCanonical, longest_key-append}
use Rattle.rart_trie.proofs.tries.CanonicalTests.{canonical-lower}
use Rattle.rart_nodes.proofs.walks.PartLemmas.{child-deep}
use Rattle.rart_trie.proofs.tries.StepLemmas.{child-canonical, child-falls, longest-of, pick, longest-below}

-- what is pushed last comes first
pub deepest : {A : Type 0} (xs ys : List A) (x : A) → xs ≡ ys ++ x ∷ [] → reverse xs ≡ x ∷ reverse ys
deepest xs ys x e = ap reverse e ∙ reverse-append ys (x ∷ [])

pub last-set : {A : Type 0} (xs : List A) (n : ℕ) (x y : A) → n + 1 ≡ length xs → x ≡ slice_index_or xs n x
    → (rest : List A) × ((xs ≡ rest ++ x ∷ []) × (slice_set xs n y ≡ rest ++ y ∷ []))
last-set [] n x y h e = absurd (omega arith)
last-set (a ∷ []) zero x y h e = ([], (ap (λ z. z ∷ []) (sym e), refl))
last-set (a ∷ b ∷ xs) zero x y h e = absurd (omega arith)
last-set (a ∷ xs) (suc n) x y h e = let r = last-set xs n x y (omega arith) e in
    (a ∷ r.0, (ap (λ z. a ∷ z) r.1.0, ap (λ z. a ∷ z) r.1.1))

-- the first segments of a path that was cut after them and continues
pub take-path : (i d : ℕ) (k p : SegmentList) → i ≤ d → d ≤ length k → take i (take d k ++ p) ≡ take i k
take-path i d k p h l = take-append-le i (take d k) p (omega (arith, length-take d k)) ∙ take-take i d k h

grown-long : (g : Grown) (p : List ℕ) → KeepsEach g → 0 < length p → 0 < length (g p)
grown-long g [] h l = absurd (omega arith)
grown-long g (b ∷ p) h l = h b p

pub starts-long : (b : ℕ) (p : List ℕ) → StartsWith b p → 0 < length p
starts-long b [] h = absurd h
starts-long b (x ∷ p) h = omega arith

module _ {V : Type 0} where
  pub below-canonical : (t : Trie V) → is_canonical t ≡ true → AreCanonical 0 (children_in t)
  below-canonical (node p v n cs) c = (IsCanonical-test (node p v n cs) c).2

  -- the prefix of a node is no longer than its longest key
  pub prefix-short : (t : Trie V) → is_canonical t ≡ true → length (prefix_of t) ≤ longest_key (pairs_of t)
  prefix-short t w = omega (arith, longest-below t (IsCanonical-test t w))

  -- some of the children ds, from the byte `low` on
  abbrev pub ArePart : ℕ → Children V → Children V → Type 0
  ArePart low cs ds = AreCanonical low cs × (longest_key (children_pairs cs) ≤ longest_key (children_pairs ds))
      × (children_height cs ≤ children_height ds)

  part-child : (z : Bool) (low c : ℕ) (t : Trie V) (cs ds : Children V) → AreCanonical low (child c t ds)
      → ArePart (suc c) cs ds → ArePart low (cond z (child c t cs) cs) (child c t ds)
  part-child true low c t cs ds w a = (
    (w.0, w.1, w.2, a.0),
    omega (
      arith,
      a.1,
      longest_key-append (pairs_of t) (children_pairs cs),
      longest_key-append (pairs_of t) (children_pairs ds),
    ),
    omega (arith, a.2),
  )
  part-child false low c t cs ds w a = (
    canonical-lower low (suc c) cs (omega (arith, w.0)) a.0,
    omega (arith, a.1, longest_key-append (pairs_of t) (children_pairs ds)),
    omega (arith, a.2),
  )

  pub above-part : (b low : ℕ) (cs : Children V) → AreCanonical low cs → ArePart low (children_above b cs) cs
  above-part b low no_children w = (tt, omega arith, omega arith)
  above-part b low (child c t cs) w
      = part-child (ltb b c) low c t (children_above b cs) cs w (above-part b (suc c) cs w.3)

  under-part : (b low : ℕ) (cs : Children V) → AreCanonical low cs → ArePart low (children_under b cs) cs
  under-part b low no_children w = (tt, omega arith, omega arith)
  under-part b low (child c t cs) w
      = part-child (ltb c b) low c t (children_under b cs) cs w (under-part b (suc c) cs w.3)

  all-part : (cs : Children V) → AreCanonical 0 cs → ArePart 0 cs cs
  all-part cs w = (w, omega arith, omega arith)

  pub node-part : (t : Trie V) → is_canonical t ≡ true → ArePart 0 (children_in t) (children_in t)
  node-part t c = all-part (children_in t) (below-canonical t c)

  -- the children of a node after a byte, or before it
  pub after-part : (e : Option ℕ) (t : Trie V) → is_canonical t ≡ true
      → ArePart 0 (children_after e (children_in t)) (children_in t)
  after-part None t c = node-part t c
  after-part (Some b) t c = above-part b 0 (children_in t) (below-canonical t c)

  pub before-part : (e : Option ℕ) (t : Trie V) → is_canonical t ≡ true
      → ArePart 0 (children_before e (children_in t)) (children_in t)
  before-part None t c = node-part t c
  before-part (Some b) t c = under-part b 0 (children_in t) (below-canonical t c)

  -- a node whose path is kept as k, below n levels, fits the capacity
  abbrev pub IsPathReserved : ℕ → SegmentList → ℕ → Option (Trie V) → Type 0
  IsPathReserved longest k n None = Unit {0}
  IsPathReserved longest k n (Some t) = (length k + longest_key (pairs_of t) ≤ longest)
      × (n + longest_key (children_pairs (children_in t)) ≤ longest)

  pub first-reserved : (longest n : ℕ) (k : SegmentList) (t : Trie V) → is_canonical t ≡ true → n ≡ 0
      → length k + longest_key (pairs_of t) ≤ longest → IsPathReserved longest k n (Some t)
  first-reserved longest n k t c e l = (l, omega (arith, l, e, longest-below t (IsCanonical-test t c)))

  -- a path without levels
  pub no-levels : (longest places : ℕ) (k : SegmentList) → length k ≤ longest → IsWalk {V = V} longest places k []
  no-levels longest places k l = record { stations = tt; reserved = tt; short = l }

  deeper : (longest deep more : ℕ) (ls : List (Level V)) → deep ≤ more → AreLevels longest deep ls
      → AreLevels longest more ls
  deeper longest deep more [] h w = tt
  deeper longest deep more (l ∷ ls) h w = (omega (arith, w.0), w.1, w.2, w.3, w.4)

  -- a level of some of a node's children comes after the others
  pub level-pushed : (g : Grown) (longest places : ℕ) (k : SegmentList) (t : Trie V) (cs : Children V)
      (ls : List (Level V)) → IsShort g → is_canonical t ≡ true → IsWalk longest places k ls → longest < places
      → IsPathReserved longest k (length ls) (Some t) → ArePart 0 cs (children_in t)
      → IsWalk longest places (k ++ g (prefix_of t)) ((cs, length (k ++ g (prefix_of t))) ∷ ls)
  level-pushed g longest places k t cs ls s c q r w a =
      let n : length (k ++ g (prefix_of t)) ≤ length k + length (prefix_of t)
      = omega (arith, length-append k (g (prefix_of t)), s (prefix_of t)) in
      let below = longest-below t (IsCanonical-test t c) in
      let more : length k ≤ length (k ++ g (prefix_of t)) = omega (arith, length-append k (g (prefix_of t))) in
      record {
        stations = (
          omega arith,
          a.0,
          omega (arith, n, below, w.0, a.1),
          omega (arith, w.1, a.1),
          deeper longest (length k) (length (k ++ g (prefix_of t))) ls more q.stations,
        );
        reserved = r;
        short = omega (arith, n, below, w.0);
      }

  -- the path is cut to its deepest level, which has some of its children left
  pub cut-to : (longest places d : ℕ) (k : SegmentList) (cs ds : Children V) (ls : List (Level V)) → AreCanonical 0 cs
      → longest_key (children_pairs cs) ≤ longest_key (children_pairs ds) → IsWalk longest places k ((ds, d) ∷ ls)
      → IsWalk longest places (take d k) ((cs, d) ∷ ls)
  cut-to longest places d k cs ds ls a l q =
      let w = q.stations in
      let n : length (take d k) ≡ d = omega (arith, length-take d k, w.0) in
      record {
        stations = (omega (arith, n), a, omega (arith, w.2, l), omega (arith, w.3, l), w.4);
        reserved = q.reserved;
        short = omega (arith, n, w.0, q.short);
      }

  reserved-after : (longest places : ℕ) (l : Level V) (ls : List (Level V)) → IsReserved longest places (l ∷ ls)
      → IsReserved longest places ls
  reserved-after longest places l [] h = tt
  reserved-after longest places l (m ∷ ls) h = h

  -- the deepest level is left
  pub level-left : (longest places : ℕ) (k : SegmentList) (l : Level V) (ls : List (Level V))
      → IsWalk longest places k (l ∷ ls) → IsWalk longest places k ls
  level-left longest places k l ls q = record {
    stations = deeper longest l.1 (length k) ls q.stations.0 q.stations.4;
    reserved = reserved-after longest places l ls q.reserved;
    short = q.short;
  }

  -- t is a child at the deepest level, and cs are the others
  pub record Child (longest places : ℕ) (k : SegmentList) (d : ℕ) (t : Trie V) (cs : Children V)
      (ls : List (Level V)) : Type 0 where
    pub inside : d ≤ length k
    pub long : 0 < length (prefix_of t)
    pub canonical : is_canonical t ≡ true
    pub fits : IsPathReserved longest (take d k) (length ls + 1) (Some t)
    pub others : IsWalk longest places (take d k) ((cs, d) ∷ ls)
    pub reserved : longest < places
    pub above : AreLevels longest d ls

  pub child-known : (longest places d b : ℕ) (k : SegmentList) (t : Trie V) (cs ds : Children V)
      (ls : List (Level V)) → IsWalk longest places k ((ds, d) ∷ ls) → StartsWith b (prefix_of t) → IsCanonical t
      → AreCanonical 0 cs → longest_key (children_pairs cs) ≤ longest_key (children_pairs ds)
      → longest_key (pairs_of t) ≤ longest_key (children_pairs ds) → Child longest places k d t cs ls
  child-known longest places d b k t cs ds ls q f c a l m =
      let w = q.stations in
      let long = starts-long b (prefix_of t) f in
      record {
        inside = w.0;
        long = long;
        canonical = test-IsCanonical t c;
        fits = (omega (arith, w.2, m, length-take d k), omega (arith, w.3, m, longest-below t c, long));
        others = cut-to longest places d k cs ds ls a l q;
        reserved = q.reserved;
        above = w.4;
      }

  -- a level of the child's own children comes after the others
  pub child-pushed : (g : Grown) (longest places d : ℕ) (k : SegmentList) (t : Trie V) (cs : Children V)
      (ls : List (Level V)) → IsShort g → Child longest places k d t cs ls
      → IsWalk longest places (take d k ++ g (prefix_of t))
      ((children_in t, length (take d k ++ g (prefix_of t))) ∷ (cs, d) ∷ ls)
  child-pushed g longest places d k t cs ls s c = level-pushed g longest places (take d k) t (children_in t)
      ((cs, d) ∷ ls) s c.canonical c.others c.reserved (c.fits.0, omega (arith, c.fits.1)) (node-part t c.canonical)

  -- the capacity that the child finds
  pub record Space (longest places d : ℕ) (t : Trie V) (n : ℕ) : Type 0 where
    pub bytes : d + length (prefix_of t) ≤ longest
    pub place : n < places

  pub child-space : (longest places d n : ℕ) (k : SegmentList) (t : Trie V) (cs : Children V) (ls : List (Level V))
      → Child longest places k d t cs ls → n ≡ length ls + 1 → Space longest places d t n
  child-space longest places d n k t cs ls c e = record {
    bytes = omega (arith, c.fits.0, c.inside, length-take d k, prefix-short t c.canonical);
    place = omega (arith, c.fits.1, c.reserved, e);
  }

  -- the path is longer after it
  pub child-longer : (g : Grown) (longest places d : ℕ) (k k1 : SegmentList) (t : Trie V) (cs : Children V)
      (ls : List (Level V)) → KeepsEach g → Child longest places k d t cs ls → k1 ≡ take d k ++ g (prefix_of t)
      → d < length k1
  child-longer g longest places d k k1 t cs ls h c i = omega (
    arith,
    ap length i,
    length-append (take d k) (g (prefix_of t)),
    length-take d k,
    c.inside,
    grown-long g (prefix_of t) h c.long,
  )

  -- a walk with the bytes of its path, where no key is longer than the bound
  pub key-walk : {maximum : Option ℕ} {longest places capacity bound : ℕ} {k : SegmentList} {ls : List (Level V)}
      → IsWalk longest places k ls → longest ≤ capacity → longest ≤ bound → IsWithin maximum bound
      → IsKeyWalk maximum longest places capacity k ls
  key-walk w r l h = record { walk = w; path = r; within = fewer-within _ _ _ l h }

  -- nothing, or a child of t
  abbrev pub IsChildOf : Trie V → Option (Trie V) → Type 0
  IsChildOf t None = Unit {0}
  IsChildOf t (Some u) = (b : ℕ) × (child_in b t ≡ Some u)

  pub is-child : (b : ℕ) (t : Trie V) (o : Option (Trie V)) → o ≡ child_in b t → IsChildOf t o
  is-child b t None e = tt
  is-child b t (Some u) e = (b, sym e)

  pub falls : (t : Trie V) (o : Option (Trie V)) → IsChildOf t o → tree_count o < node_count t
  falls (node p v n cs) None w = omega arith
  falls t (Some u) w = child-falls w.0 t (Some u) w.1

  child-long : (b low : ℕ) (u : Trie V) (cs : Children V) → AreCanonical low cs → child_of b cs ≡ Some u
      → is_canonical u ≡ true → longest_key (children_pairs (children_in u)) + 1 ≤ longest_key (pairs_of u)
  child-long b low u no_children w e i = absurd (cc)
  child-long b low u (child c t cs) w e i = ⊎_elim
      (λ q. omega (
        arith,
        longest-below u (IsCanonical-test u i),
        starts-long c (prefix_of t) w.1,
        ap
            (λ x. length (prefix_of x)) q,
      ))
      (λ q. child-long b (suc c) u cs w.3 q i) (pick (eqb c b) t u (child_of b cs) e)

  pub path-on : {L : Type 0} (g : Grown) (longest : ℕ) (k k1 : SegmentList) (t : Trie V) (o : Option (Trie V))
      (st st1 : List L) (l : L) → IsShort g → is_canonical t ≡ true
      → IsPathReserved longest k (length st) (Some t)
      → k1 ≡ k ++ g (prefix_of t) → st1 ≡ st ++ l ∷ [] → IsChildOf t o → IsPathReserved longest k1 (length st1) o
  path-on g longest k k1 t None st st1 l s c w i f e = tt
  path-on g longest k k1 (node p v m cs) (Some u) st st1 l s c w i f e = (
    omega (arith, w.0, child-deep (node p v m cs) e.0 (Some u) c e.1, ap length i, length-append k (g p), s p),
    omega (
      arith,
      w.1,
      longest-of e.0 u cs e.1,
      child-long e.0 0 u cs (IsCanonical-test (node p v m cs) c).2 e.1
          (child-canonical e.0 (node p v m cs) u c e.1),
      ap length f,
      length-append st (l ∷ []),
    ),
  )
