-- What a test of how keys compare with a string keeps of the entries of a node.
use Rattle.std.proofs.Common.{◌≡◌, ℕ, suc, ◌<◌, ◌≤◌, ⊎_elim, Bool, true, false, List, [], ◌∷◌, ◌++◌, Option, Some, None}
use Rattle.std.proofs.Common.{map, refl, sym, ap, ◌∙◌, arith, Less, Equal, Greater, if◌then◌else◌}
use Rattle.std.specs.Prelude.{slice_get}
use Rattle.std.specs.declared.cmp.Ordering.{Ordering}
use Rattle.std.specs.List.{filter}
use Rattle.std.specs.Ordering.{nat_cmp, match_ordering}
use Rattle.std.specs.Cmp.Lexicographic.{slice_cmp}
use Rattle.std.proofs.lemmas.Bool.{lt-ltb, le-ltb}
use Rattle.std.proofs.lemmas.List.{append_assoc}
use Rattle.std.proofs.lemmas.List.Elements.{filter-append}
use Rattle.rart_keys.specs.ByteStrings.{strip_prefix}
use Rattle.rart_keys.proofs.strings.ByteOrder.{order, is_less, is_greater, eq-yes, eq-no, compare, below-greater}
use Rattle.rart_keys.proofs.strings.ByteOrder.{cmp-itself}
use Rattle.rart_keys.proofs.maps.RangeLemmas.{cmp-apart, cmp-past, not-same}
use Rattle.rart_trie.specs.ranges.Starts.{children_above}
use Rattle.rart_trie.specs.ranges.Under.{children_under}
use Rattle.rart_nodes.specs.ranges.Steps.{AllCompare}
use Rattle.rart_nodes.specs.ranges.UpperBounds.{if_included}
use Rattle.rart_trie.specs.tries.CanonicalTest.{is_canonical}
use Rattle.rart_trie.specs.tries.Tree.{tree_pairs}
use Rattle.rart_trie.specs.tries.Trie.{Trie, node, Children, no_children, child, children_in, prefix_of, value_of}
use Rattle.rart_trie.specs.tries.Trie.{child_of, child_in, StartsWith, AreCanonical}
use Rattle.rart_nodes.specs.walks.SegmentLaws.{joined-append}
use Rattle.rart_trie.specs.walks.Walk.{SegmentList, Grown, Joins, joined_bytes, join_all, segments_after, value_at}
use Rattle.rart_trie.specs.walks.Walk.{entries_of, children_entries, tree_entries}
use Rattle.rart_trie.proofs.tries.CanonicalTests.{IsCanonical-test}
use Rattle.rart_trie.proofs.tries.FirstBytes.{AllFirst, AllFrom, IsFrom, pairs_of-first, children_pairs-from}
use Rattle.rart_trie.proofs.tries.Descents.{child_of-low}
use Rattle.rart_nodes.proofs.walks.EntryLemmas.{joined-entries, joined-children, joined-tree}

-- a string that another one doesn't begin with, and that isn't less than it, is greater
pub higher-apart : (q r : List ℕ) → strip_prefix q r ≡ None → (slice_cmp nat_cmp q r ≡ Less → ⊥)
    → slice_cmp nat_cmp q r ≡ Greater
higher-apart q r s n = ⊎_elim (λ h. absurd (n h)) (⊎_elim
    (λ e. absurd (not-same q r s (ap (λ z. slice_cmp nat_cmp z r) e ∙ cmp-itself r)))
    (λ h. below-greater r q h)) (compare q r)

first-less : (b c : ℕ) (r k : List ℕ) → StartsWith c k → c < b → slice_cmp nat_cmp k (b ∷ r) ≡ Less
first-less b c r [] f l = absurd f
first-less b c r (x ∷ k) f l = rw (is_less x b (omega arith)) refl

from-greater : (b low : ℕ) (r k : List ℕ) → IsFrom low k → b < low → slice_cmp nat_cmp k (b ∷ r) ≡ Greater
from-greater b low r [] f l = absurd f
from-greater b low r (x ∷ k) f l = rw (is_greater x b (omega arith)) refl

from-longer : (low : ℕ) (k : List ℕ) → IsFrom low k → slice_cmp nat_cmp k [] ≡ Greater
from-longer low [] f = absurd f
from-longer low (x ∷ k) f = refl

-- to filter the images of a list is to filter the list
pub filter-map : {X Y : Type 0} (f : X → Y) (p : X → Bool) (q : Y → Bool) (xs : List X) → ((x : X) → q (f x) ≡ p x)
    → filter q (map f xs) ≡ map f (filter p xs)
filter-map f p q [] h = refl
filter-map f p q (x ∷ xs) h = rw (h x, filter-map f p q xs h)
    (elim (p x) as (λ z. (if z then f x ∷ map f (filter p xs) else map f (filter p xs))
    ≡ map f (if z then x ∷ filter p xs else filter p xs)) [ true ↦ refl | false ↦ refl ])

-- a list, or nothing
abbrev list_if : {A : Type 0} → Bool → List A → List A
list_if true xs = xs
list_if false xs = []

list_if-nil : {A : Type 0} (b : Bool) → list_if {A = A} b [] ≡ []
list_if-nil true = refl
list_if-nil false = refl

list_if-append : {A : Type 0} (b : Bool) (xs ys : List A) → list_if b xs ++ list_if b ys ≡ list_if b (xs ++ ys)
list_if-append true xs ys = refl
list_if-append false xs ys = refl

-- from a start on, and until an end, which are kept themselves if h
abbrev pub is_after : Bool → Ordering → Bool
is_after h o = match_ordering o false h true

abbrev pub is_before : Bool → Ordering → Bool
is_before h o = match_ordering o true h false

module _ {V : Type 0} where
  -- the entries whose keys compare with s so that a holds
  abbrev entries_by : (Ordering → Bool) → List ℕ → List (SegmentList × V) → List (SegmentList × V)
  entries_by a s es = filter (λ e. a (slice_cmp nat_cmp (joined_bytes e.0) s)) es

  -- each key compares with s as o
  abbrev AreAlike : Ordering → List ℕ → List (SegmentList × V) → Type 0
  AreAlike o s [] = Unit {0}
  AreAlike o s (e ∷ es) = (slice_cmp nat_cmp (joined_bytes e.0) s ≡ o) × AreAlike o s es

  by-alike : (a : Ordering → Bool) (o : Ordering) (s : List ℕ) (es : List (SegmentList × V)) → AreAlike o s es
      → entries_by a s es ≡ list_if (a o) es
  by-alike a o s [] w = sym (list_if-nil (a o))
  by-alike a o s (e ∷ es) w = rw w.0 (elim (a o) as (λ z. entries_by a s es ≡ list_if z es
      → (if z then e ∷ entries_by a s es else entries_by a s es) ≡ list_if z (e ∷ es))
      [ true ↦ λ i. ap (λ z. e ∷ z) i | false ↦ λ i. i ] (by-alike a o s es w.1))

  -- keys that begin with a lower byte, or with higher ones
  lower-alike : (b c : ℕ) (r : List ℕ) (es : List (SegmentList × V)) → AllFirst c (join_all es) → c < b
      → AreAlike Less (b ∷ r) es
  lower-alike b c r [] f l = tt
  lower-alike b c r (e ∷ es) f l = (first-less b c r (joined_bytes e.0) f.0 l, lower-alike b c r es f.1 l)

  from-alike : (o : Ordering) (low : ℕ) (s : List ℕ) (es : List (SegmentList × V))
      → ((k : List ℕ) → IsFrom low k → slice_cmp nat_cmp k s ≡ o) → AllFrom low (join_all es) → AreAlike o s es
  from-alike o low s [] h f = tt
  from-alike o low s (e ∷ es) h f = (h (joined_bytes e.0) f.0, from-alike o low s es h f.1)

  -- the value of a node
  by-own : (a : Ordering → Bool) (o : Ordering) (s : List ℕ) (v : Option V) (es : List (SegmentList × V))
      → slice_cmp nat_cmp [] s ≡ o → entries_by a s (value_at [] v ++ es)
      ≡ value_at [] (if_included (a o) v) ++ entries_by a s es
  by-own a o s None es e = elim (a o)
      as (λ z. entries_by a s es ≡ value_at [] (if_included z None) ++ entries_by a s es) [ true ↦ refl | false ↦ refl ]
  by-own a o s (Some v) es e = rw e (elim (a o) as (λ z. (if z then ([], v) ∷ entries_by a s es else entries_by a s es)
      ≡ value_at [] (if_included z (Some v)) ++ entries_by a s es) [ true ↦ refl | false ↦ refl ])

  -- after segments that begin the string, and after some that leave it
  by-past : (a : Ordering → Bool) (k : SegmentList) (s r : List ℕ) (es : List (SegmentList × V))
      → strip_prefix (joined_bytes k) s ≡ Some r
      → entries_by a s (segments_after k es) ≡ segments_after k (entries_by a r es)
  by-past a k s r es e = filter-map (λ x. (k ++ x.0, x.1)) (λ x. a (slice_cmp nat_cmp (joined_bytes x.0) r))
      (λ x. a (slice_cmp nat_cmp (joined_bytes x.0) s)) es
      (λ x. ap a (ap (λ z. slice_cmp nat_cmp z s) (joined-append k x.0)
      ∙ cmp-past (joined_bytes k) s r (joined_bytes x.0) e))

  apart-alike : (o : Ordering) (k : SegmentList) (s : List ℕ) (es : List (SegmentList × V))
      → AllCompare o (joined_bytes k) s → AreAlike o s (segments_after k es)
  apart-alike o k s [] w = tt
  apart-alike o k s (x ∷ es) w = (
    rw (joined-append k x.0) (cmp-apart (joined_bytes k) s (joined_bytes x.0) w.0 ∙ w.1),
    apart-alike o k s es w,
  )

  -- children
  above-all : (b low : ℕ) (cs : Children V) → b < low → AreCanonical low cs → children_above b cs ≡ cs
  above-all b low no_children l w = refl
  above-all b low (child c t cs) l w = rw (lt-ltb b c (omega (arith, w.0)))
      (ap (λ z. child c t z) (above-all b (suc c) cs (omega (arith, w.0)) w.3))

  pub under-nothing : (b low : ℕ) (cs : Children V) → b ≤ low → AreCanonical low cs → children_under b cs ≡ no_children
  under-nothing b low no_children l w = refl
  under-nothing b low (child c t cs) l w = rw (le-ltb c b (omega (arith, w.0)))
      (under-nothing b (suc c) cs (omega (arith, w.0)) w.3)

  by-above : (a : Ordering → Bool) (g : Grown) (b low : ℕ) (r : List ℕ) (cs : Children V) → Joins g → b < low
      → AreCanonical low cs → entries_by a (b ∷ r) (children_entries g cs) ≡ list_if (a Greater) (children_entries g cs)
  by-above a g b low r cs j l w = by-alike a Greater (b ∷ r) (children_entries g cs)
      (from-alike Greater low (b ∷ r) (children_entries g cs) (λ k i. from-greater b low r k i l)
      (rw (joined-children g cs j) (children_pairs-from low cs w)))

  by-under : (a : Ordering → Bool) (g : Grown) (b c : ℕ) (r : List ℕ) (t : Trie V) → Joins g → c < b
      → StartsWith c (prefix_of t) → entries_by a (b ∷ r) (entries_of g t) ≡ list_if (a Less) (entries_of g t)
  by-under a g b c r t j l f = by-alike a Less (b ∷ r) (entries_of g t)
      (lower-alike b c r (entries_of g t) (rw (joined-entries g t j) (pairs_of-first c t f)) l)

  -- those under the string's next byte, what is kept of the child at it, and those above it
  by-children : (a : Ordering → Bool) (g : Grown) (b low : ℕ) (r : List ℕ) (cs : Children V) → Joins g
      → AreCanonical low cs → entries_by a (b ∷ r) (children_entries g cs)
      ≡ list_if (a Less) (children_entries g (children_under b cs))
      ++ (entries_by a (b ∷ r) (tree_entries g (child_of b cs))
      ++ list_if (a Greater) (children_entries g (children_above b cs)))
  by-children a g b low r no_children j w = rw (
    list_if-nil {A = SegmentList × V} (a Less),
    list_if-nil {A = SegmentList × V} (a Greater),
  ) refl
  by-children a g b low r (child c t cs) j w = ⊎_elim
      (λ l. rw (
        eq-no c b (λ q. omega arith),
        lt-ltb b c l,
        le-ltb c b (omega arith),
        child_of-low b (suc c) cs (omega arith) w.3,
        under-nothing b (suc c) cs (omega arith) w.3,
        above-all b (suc c) cs (omega arith) w.3,
        list_if-nil {A = SegmentList × V} (a Less),
      ) (by-above a g b c r (child c t cs) j l (omega arith, w.1, w.2, w.3)))
      (⊎_elim
      (λ q. rw (
        filter-append (λ e. a (slice_cmp nat_cmp (joined_bytes e.0) (b ∷ r))) (entries_of g t) (children_entries g cs),
        eq-yes c b (sym q),
        le-ltb b c (omega arith),
        le-ltb c b (omega arith),
        under-nothing b (suc c) cs (omega arith) w.3,
        above-all b (suc c) cs (omega arith) w.3,
        list_if-nil {A = SegmentList × V} (a Less),
        by-above a g b (suc c) r cs j (omega arith) w.3,
      ) refl)
      (λ l. let rest = entries_by a (b ∷ r) (tree_entries g (child_of b cs))
      ++ list_if (a Greater) (children_entries g (children_above b cs)) in
      rw (
        filter-append (λ e. a (slice_cmp nat_cmp (joined_bytes e.0) (b ∷ r))) (entries_of g t) (children_entries g cs),
        eq-no c b (λ q. omega arith),
        lt-ltb c b l,
        le-ltb b c (omega arith),
        by-under a g b c r t j l w.1,
        by-children a g b (suc c) r cs j w.3,
      )
      (sym (append_assoc (list_if (a Less) (entries_of g t))
      (list_if (a Less) (children_entries g (children_under b cs)))
      rest) ∙ ap (λ z. z ++ rest) (list_if-append (a Less) (entries_of g t)
      (children_entries g (children_under b cs)))))) (order b c)

  -- at a node whose prefix leaves the string
  pub by-apart : (a : Ordering → Bool) (o : Ordering) (g : Grown) (s : List ℕ) (t : Trie V) → Joins g
      → AllCompare o (prefix_of t) s → entries_by a s (entries_of g t) ≡ list_if (a o) (entries_of g t)
  by-apart a o g s (node q v n cs) j w = by-alike a o s (entries_of g (node q v n cs))
      (apart-alike o (g q) s (value_at [] v ++ children_entries g cs) (rw (j q) w))

  -- the string ends after its prefix
  pub by-ended : (a : Ordering → Bool) (g : Grown) (s r : List ℕ) (t : Trie V) → Joins g → is_canonical t ≡ true
      → strip_prefix (prefix_of t) s ≡ Some r → slice_get r 0 ≡ None → entries_by a s (entries_of g t)
      ≡ segments_after (g (prefix_of t)) (value_at [] (if_included (a Equal) (value_of t))
      ++ list_if (a Greater) (children_entries g (children_in t)))
  by-ended a g s (b ∷ r) t j c e f = absurd (cc)
  by-ended a g s [] (node q v n cs) j c e f =
      let es : List (SegmentList × V) = children_entries g cs in
      by-past a (g q) s [] (value_at [] v ++ es) (rw (j q) e)
      ∙ ap (segments_after (g q)) (by-own a Equal [] v es refl
      ∙ ap (λ z. value_at [] (if_included (a Equal) v) ++ z) (by-alike a Greater [] es
      (from-alike Greater 0 [] es (λ k i. from-longer 0 k i) (rw (joined-children g cs j)
      (children_pairs-from 0 cs (IsCanonical-test (node q v n cs) c).2)))))

  -- the string continues by b
  pub by-on : (a : Ordering → Bool) (g : Grown) (s r : List ℕ) (b : ℕ) (t : Trie V) → Joins g → is_canonical t ≡ true
      → strip_prefix (prefix_of t) s ≡ Some r → slice_get r 0 ≡ Some b → entries_by a s (entries_of g t)
      ≡ segments_after (g (prefix_of t)) (value_at [] (if_included (a Less) (value_of t))
      ++ (list_if (a Less) (children_entries g (children_under b (children_in t)))
      ++ (entries_by a r (tree_entries g (child_in b t))
      ++ list_if (a Greater) (children_entries g (children_above b (children_in t))))))
  by-on a g s [] b t j c e f = absurd (cc)
  by-on a g s (x ∷ r) b (node q v n cs) j c e f =
      let same : b ≡ x = cc in
      let es : List (SegmentList × V) = children_entries g cs in
      rw same (by-past a (g q) s (x ∷ r) (value_at [] v ++ es) (rw (j q) e)
      ∙ ap (segments_after (g q)) (by-own a Less (x ∷ r) v es refl
      ∙ ap (λ z. value_at [] (if_included (a Less) v) ++ z)
      (by-children a g x 0 r cs j (IsCanonical-test (node q v n cs) c).2)))

  -- whole keys
  pub tree-by : (a : Ordering → Bool) (g : Grown) (s : List ℕ) (o : Option (Trie V)) → Joins g
      → join_all (entries_by a s (tree_entries g o)) ≡ filter (λ e. a (slice_cmp nat_cmp e.0 s)) (tree_pairs o)
  tree-by a g s o j = sym (filter-map (λ e. (joined_bytes e.0, e.1)) (λ e. a (slice_cmp nat_cmp (joined_bytes e.0) s))
      (λ e. a (slice_cmp nat_cmp e.0 s)) (tree_entries g o) (λ e. refl))
      ∙ ap (filter (λ e. a (slice_cmp nat_cmp e.0 s))) (joined-tree g o j)
