-- The descent of a walk to its start, and of a descending walk to its upper bound, node by node.
use Rattle.std.proofs.Common.{◌≡◌, ℕ, ◌+◌, ◌<◌, ◌≤◌, Bool, true, List, [], ◌∷◌, ◌++◌, length, reverse, Option, Some}
use Rattle.std.proofs.Common.{None, arith, refl, sym}
use Rattle.std.specs.Borrow.{Bor}
use Rattle.std.specs.Option.{option_copied}
use Rattle.std.specs.declared.cmp.Ordering.{Ordering}
use Rattle.std.proofs.Common.{Less, Greater}
use Rattle.rart_keys.specs.SortedMap.{longest_key}
use Rattle.rart_nodes.specs.ranges.DescendingWalk.{DescendingLevel, IsDescendingWalk, remaining_entries}
use Rattle.rart_nodes.specs.ranges.Potential.{AreLow}
use Rattle.rart_nodes.specs.ranges.Steps.{AllCompare, Steps, StepsFrom, StepsUntil, whole, own_key, in_child}
use Rattle.rart_nodes.specs.ranges.Steps.{children_after}
use Rattle.rart_nodes.specs.ranges.UpperBounds.{entries_until}
use Rattle.rart_trie.specs.ranges.Starts.{entries_from}
use Rattle.rart_trie.specs.ranges.Under.{children_before}
use Rattle.rart_trie.specs.stats.Stats.{trie_height}
use Rattle.rart_trie.specs.tries.CanonicalTest.{is_canonical}
use Rattle.rart_trie.specs.tries.Trie.{Trie, children_in, pairs_of, prefix_of}
use Rattle.rart_trie.specs.walks.ProbeCount.{entered_nodes, tree_entered}
use Rattle.rart_trie.specs.walks.Walk.{SegmentList, Grown, IsShort, IsWalk, Joins, Level, segments_after, value_at}
use Rattle.rart_trie.specs.walks.Walk.{entries_of, entries_below, tree_entries}
use Rattle.rart_trie.proofs.tries.StepLemmas.{step-ended, step-left, step-on}
use Rattle.rart_nodes.proofs.ranges.BoundSteps.{ahead-lower, ahead-start, ahead-step}
use Rattle.rart_nodes.proofs.ranges.BoundSteps.{remaining-higher, remaining-start, remaining-step}
use Rattle.rart_nodes.proofs.ranges.LevelLemmas as levels
use Rattle.rart_nodes.proofs.ranges.PotentialLemmas.{HasHeight, height-on, low-some}
use Rattle.rart_nodes.proofs.walks.PathLemmas.{IsChildOf, IsPathReserved, after-part, before-part, first-reserved}
use Rattle.rart_nodes.proofs.walks.PathLemmas.{is-child, no-levels, path-on}
use Rattle.rart_nodes.proofs.walks.WalkLemmas.{pushed}

module _ {V : Type 0} where
  pub step-visits : {o : Ordering} {own : Option ℕ} {passed : Option V} (h : Bool) (s : List ℕ) (t : Trie V)
      (v : Option V) (e : Option ℕ) (n : Option (Trie V)) (r : List ℕ) → is_canonical t ≡ true
      → Steps o own passed h s t v e n r → entered_nodes s t ≡ 1 + tree_entered r n
  step-visits h s t v e n r c (whole a x y z) = rw z ((step-left t s (sym a.0)).1)
  step-visits h s t v e n r c (own_key f l x y z) = rw z ((step-ended t s r (sym f) (sym l)).1)
  step-visits h s t v e n r c (in_child b f l x y z) = rw z ((step-on t s r b c (sym f) (sym l)).1)

  pub step-child : {o : Ordering} {own : Option ℕ} {passed : Option V} (h : Bool) (s : List ℕ) (t : Trie V)
      (v : Option V) (e : Option ℕ) (n : Option (Trie V)) (r : List ℕ) → Steps o own passed h s t v e n r
      → IsChildOf t n
  step-child h s t v e n r (whole a x y z) = rw z tt
  step-child h s t v e n r (own_key f l x y z) = rw z tt
  step-child h s t v e n r (in_child b f l x y z) = is-child b t n z

  -- the first value is that of the node where the descent ends
  abbrev pub IsFirst : Option V → Option (Trie V) → Type 0
  IsFirst v None = Unit {0}
  IsFirst v (Some t) = v ≡ None

  pub step-first : (h : Bool) (s : List ℕ) (t : Trie V) (v : Option V) (e : Option ℕ) (n : Option (Trie V))
      (r : List ℕ) → StepsFrom h s t v e n r → IsFirst v n
  step-first h s t v e n r (whole a x y z) = rw z tt
  step-first h s t v e n r (own_key f l x y z) = rw z tt
  step-first h s t v e None r (in_child b f l x y z) = tt
  step-first h s t v e (Some u) r (in_child b f l x y z) = x

  -- A walk descends from the node u to s. At the path k it has the first value v and the levels st, and it continues at
  -- n, where r remains of s.
  pub record DescendsFrom (g : Grown) (h : Bool) (longest places : ℕ) (s : List ℕ) (u : Trie V) (k : SegmentList)
      (v : Option V) (st : List (Level V)) (n : Option (Trie V)) (r : List ℕ) : Type 0 where
    pub path : IsWalk longest places k (reverse st)
    pub fits : IsPathReserved longest k (length st) n
    pub first : IsFirst v n
    pub still : value_at k v ++ (segments_after k (entries_from h r (tree_entries g n))
        ++ entries_below g k (reverse st)) ≡ entries_from h s (entries_of g u)
    pub low : AreLow (trie_height u) (reverse st)
    pub height : HasHeight (trie_height u) (length st) n
        -- A descending walk goes down from the node u to s. At the path k it has the levels st, and it continues at n,

  -- where r remains of s.
  pub record DescendsUntil (g : Grown) (h : Bool) (longest places : ℕ) (s : List ℕ) (u : Trie V) (k : SegmentList)
      (st : List (DescendingLevel V)) (n : Option (Trie V)) (r : List ℕ) : Type 0 where
    pub path : IsDescendingWalk longest places k (reverse st)
    pub fits : IsPathReserved longest k (length st) n
    pub still : remaining_entries g k (reverse st) ++ segments_after k (entries_until h r (tree_entries g n))
        ≡ entries_until h s (entries_of g u)

  pub starts-from : (g : Grown) (h : Bool) (longest places : ℕ) (s : List ℕ) (u : Trie V) (k : SegmentList)
      (v : Option V) (st : List (Level V)) → is_canonical u ≡ true → k ≡ [] → v ≡ None → st ≡ []
      → longest_key (pairs_of u) ≤ longest → DescendsFrom g h longest places s u k v st (Some u) s
  starts-from g h longest places s u k v st c e f i l = rw (e, f, i) (record {
    path = no-levels longest places [] (omega arith);
    fits = first-reserved longest 0 [] u c refl (omega (arith, l));
    first = refl;
    still = ahead-start g [] [] (entries_from h s (entries_of g u)) refl refl;
    low = tt;
    height = omega arith;
  })

  pub starts-until : (g : Grown) (h : Bool) (longest places : ℕ) (s : List ℕ) (u : Trie V) (k : SegmentList)
      (st : List (DescendingLevel V)) → is_canonical u ≡ true → k ≡ [] → st ≡ [] → longest_key (pairs_of u) ≤ longest
      → DescendsUntil g h longest places s u k st (Some u) s
  starts-until g h longest places s u k st c e i l = rw (e, i) (record {
    path = no-levels longest places [] (omega arith);
    fits = first-reserved longest 0 [] u c refl (omega (arith, l));
    still = remaining-start g [] [] (entries_until h s (entries_of g u)) refl refl;
  })

  -- past the node t
  pub from-on : (g : Grown) (h : Bool) (longest : ℕ) {places places1 : ℕ} {s : List ℕ} {u : Trie V}
      {k k1 : SegmentList} {v v1 : Option V} {st st1 : List (Level V)} {t : Trie V} {e : Option ℕ}
      {n : Option (Trie V)} {r r1 : List ℕ} → Joins g → IsShort g → is_canonical t ≡ true → longest < places
      → DescendsFrom g h longest places s u k v st (Some t) r → StepsFrom h r t v1 e n r1 → k1 ≡ k ++ g (prefix_of t)
      → st1 ≡ st ++ (children_after e (children_in t), length k1) ∷ [] → places1 ≡ places
      → DescendsFrom g h longest places1 s u k1 v1 st1 n r1
  from-on g h longest {places} {places1} {k} {k1} {v1} {st} {st1} {t} {e} {n} {r} {r1} j m c l d w i f q =
      let part = after-part e t c in
      let level = pushed g longest places places1 k k1 t (children_after e (children_in t)) st st1 m c d.path l d.fits
      part i f q in
      let child = step-child {o = Greater} {own = None} {passed = None} h r t v1 e n r1 w in
      record {
        path = level.path;
        fits = path-on g longest k k1 t n st st1 _ m c d.fits i f child;
        first = step-first h r t v1 e n r1 w;
        still = ahead-step g h k k1 r t v1 e n r1 _ _ _ j c w i level.still (rw d.first at d.still);
        low = low-some _ _ t _ st st1 d.low d.height part.2 f;
        height = height-on _ t n st st1 _ d.height f child;
      }

  pub until-on : (g : Grown) (h : Bool) (longest : ℕ) (v : Option (Bor V)) {places places1 : ℕ} {s : List ℕ}
      {u : Trie V} {k k1 : SegmentList} {st st1 : List (DescendingLevel V)} {t : Trie V} {e : Option ℕ}
      {n : Option (Trie V)} {r r1 : List ℕ} → Joins g → IsShort g → is_canonical t ≡ true → longest < places
      → DescendsUntil g h longest places s u k st (Some t) r → StepsUntil h r t (option_copied v) e n r1
      → k1 ≡ k ++ g (prefix_of t) → st1 ≡ st ++ ((children_before e (children_in t), length k1), v) ∷ []
      → places1 ≡ places → DescendsUntil g h longest places1 s u k1 st1 n r1
  until-on g h longest v {places} {places1} {k} {k1} {st} {st1} {t} {e} {n} {r} {r1} j m c l d w i f q =
      let level = levels.pushed g longest places places1 k k1 t (children_before e (children_in t)) v st st1 m c d.path
      l
      d.fits (before-part e t c) i f q in
      record {
        path = level.path;
        fits = path-on g longest k k1 t n st st1 _ m c d.fits i f
            (step-child h r t (option_copied v) e n r1 w);
        still = remaining-step g h k k1 r t (option_copied v) e n r1 _ _ _ j c w i level.still d.still;
      }

  -- where each key of the node t is less than s
  pub from-past : (g : Grown) (h : Bool) (longest : ℕ) {places : ℕ} {s : List ℕ} {u : Trie V} {k : SegmentList}
      {v : Option V} {st : List (Level V)} {t : Trie V} {r : List ℕ} → Joins g
      → DescendsFrom g h longest places s u k v st (Some t) r → AllCompare Less (prefix_of t) r
      → value_at k v ++ entries_below g k (reverse st) ≡ entries_from h s (entries_of g u)
  from-past g h longest {k} {t} {r} j d a
      = rw d.first (ahead-lower g h k r t _ _ j a (rw d.first at d.still))

  -- where each is greater
  pub until-past : (g : Grown) (h : Bool) (longest places : ℕ) (s : List ℕ) (u : Trie V) (k : SegmentList)
      (st : List (DescendingLevel V)) (t : Trie V) (r : List ℕ) → Joins g
      → DescendsUntil g h longest places s u k st (Some t) r → AllCompare Greater (prefix_of t) r
      → remaining_entries g k (reverse st) ≡ entries_until h s (entries_of g u)
  until-past g h longest places s u k st t r j d a = remaining-higher g h k r t _ _ j a d.still
