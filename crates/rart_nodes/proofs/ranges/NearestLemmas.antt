-- The pair nearest to a bound, at each step of a descent to it.
use Rattle.std.proofs.Common.{◌≡◌, ℕ, ◌+◌, ◌-◌, ◌≤◌, Bool, true, List, [], ◌∷◌, ◌++◌, length, take}
use Rattle.std.proofs.Common.{Option, Some, None, option_map, refl, sym, ap, ap₂}
use Rattle.std.proofs.Common.{◌∙◌, arith, length-append, Less, Greater}
use Rattle.std.specs.Prelude.{slice_get}
use Rattle.std.specs.Option.{option_or}
use Rattle.std.proofs.Math.Seq.{take-append_seam}
use Rattle.std.proofs.lemmas.Iterator.Adapters.{option_map_id}
use Rattle.std.proofs.lemmas.List.{append_assoc}
use Rattle.rart_keys.specs.ByteStrings.{strip_prefix}
use Rattle.rart_keys.specs.Filters.{last_or}
use Rattle.rart_keys.specs.Ranges.{pairs_from}
use Rattle.rart_trie.specs.declared.node.ends.End.{End}
use Rattle.rart_trie.specs.declared.node.ends.End.TheVariants.{First, Last}
use Rattle.rart_trie.specs.ranges.Starts.{entries_from}
use Rattle.rart_trie.specs.ranges.Under.{children_before}
use Rattle.rart_trie.specs.tries.CanonicalTest.{is_canonical}
use Rattle.rart_trie.specs.tries.Ends.{end_of}
use Rattle.rart_trie.specs.tries.Tree.{tree_pairs}
use Rattle.rart_trie.specs.tries.Trie.{Trie, children_in, children_pairs, own_pair, pairs_of, prefix_of, with_prefix}
use Rattle.rart_trie.specs.walks.ProbeCount.{entered_nodes, tree_entered}
use Rattle.rart_trie.specs.walks.Walk.{SegmentList, children_entries, entries_of, join_all, tree_entries}
use Rattle.rart_trie.specs.walks.Walk.{value_at}
use Rattle.rart_trie.proofs.tries.EndLemmas.{end_of-map}
use Rattle.rart_trie.proofs.tries.PrefixedStrings.{strip_prefix-is}
use Rattle.rart_nodes.specs.ranges.Nearest.{StepsToward, children_toward, is_passed, nearest}
use Rattle.rart_nodes.specs.ranges.Steps.{AllCompare, StepsFrom, StepsUntil, Steps, whole}
use Rattle.rart_nodes.specs.ranges.Steps.{own_key, in_child, children_after}
use Rattle.rart_nodes.specs.ranges.UpperBounds.{entries_until, pairs_until}
use Rattle.rart_nodes.specs.tries.KeysAfter.{after_bytes}
use Rattle.rart_nodes.specs.walks.PathParts.{one_segment}
use Rattle.rart_nodes.proofs.ranges.BoundDescents.{IsFirst, step-child, step-first, step-visits}
use Rattle.rart_nodes.proofs.ranges.BoundSteps.{from-step, until-step}
use Rattle.rart_nodes.proofs.ranges.ComparedEntries.{by-apart, is_after, is_before, tree-by}
use Rattle.rart_nodes.proofs.walks.EntryLemmas.{join-after, join-append, join-own, joined-children, joins-one}
use Rattle.rart_nodes.proofs.walks.PathLemmas.{IsChildOf}
use Rattle.rart_nodes.proofs.walks.WalkLemmas.{after-append, after-none, after-own}

-- a choice of two
module _ {A : Type 0} where
  or-none : (o : Option A) → option_or o None ≡ o
  or-none None = refl
  or-none (Some x) = refl

  or-or : (a b c : Option A) → option_or (option_or a b) c ≡ option_or a (option_or b c)
  or-or None b c = refl
  or-or (Some x) b c = refl

  map-or : {B : Type 0} (f : A → B) (a b : Option A)
      → option_map f (option_or a b) ≡ option_or (option_map f a) (option_map f b)
  map-or f None b = refl
  map-or f (Some x) b = refl

  first-or : (xs ys : List A) → slice_get (xs ++ ys) 0 ≡ option_or (slice_get xs 0) (slice_get ys 0)
  first-or [] ys = refl
  first-or (x ∷ xs) ys = refl

  last-from : (o : Option A) (xs : List A) → last_or o xs ≡ option_or (last_or None xs) o
  last-from o [] = refl
  last-from o (x ∷ xs) = last-from (Some x) xs ∙ kept (last_or None xs)
      ∙ ap (λ z. option_or z o) (sym (last-from (Some x) xs))
    where
      kept : (a : Option A) → option_or a (Some x) ≡ option_or (option_or a (Some x)) o
      kept None = refl
      kept (Some y) = refl

  pub last-or : (xs ys : List A) → last_or None (xs ++ ys) ≡ option_or (last_or None ys) (last_or None xs)
  last-or xs ys = past None xs ys ∙ last-from (last_or None xs) ys
    where
      past : (o : Option A) (xs ys : List A) → last_or o (xs ++ ys) ≡ last_or (last_or o xs) ys
      past o [] ys = refl
      past o (x ∷ xs) ys = past (Some x) xs ys

module _ {V : Type 0} where
  after-twice : (p q : List ℕ) (o : Option (List ℕ × V)) → after_bytes (p ++ q) o ≡ after_bytes p (after_bytes q o)
  after-twice p q None = refl
  after-twice p q (Some x) = ap (λ k. Some (k, x.1)) (append_assoc p q x.0)

  -- the entries beside a node, as pairs
  from-pairs : (h : Bool) (s : List ℕ) (t : Trie V) (v : Option V) (e : Option ℕ) (n : Option (Trie V)) (r : List ℕ)
      → is_canonical t ≡ true → StepsFrom h s t v e n r → pairs_from h s (pairs_of t) ≡ with_prefix (prefix_of t)
      (own_pair v ++ (pairs_from h r (tree_pairs n) ++ children_pairs (children_after e (children_in t))))
  from-pairs h s t v e n r c w =
      let g = one_segment in
      let k : SegmentList = g (prefix_of t) in
      let next : List (SegmentList × V) = entries_from h r (tree_entries g n) in
      let others : List (SegmentList × V) = children_entries g (children_after e (children_in t)) in
      sym (tree-by (is_after h) g s (Some t) joins-one)
      ∙ ap join_all (sym (after-none (entries_from h s (entries_of g t))) ∙ from-step g h [] s t v e n r joins-one c w
      ∙ ap (λ z. value_at k v ++ z) (sym (after-append k next others)) ∙ sym (after-own k v (next ++ others)))
      ∙ join-after k (value_at [] v ++ (next ++ others))
      ∙ ap (λ q. with_prefix q (join_all (value_at [] v ++ (next ++ others)))) (joins-one (prefix_of t))
      ∙ ap (with_prefix (prefix_of t)) (join-append (value_at [] v) (next ++ others)
      ∙ ap₂ (λ x y. x ++ y) (join-own v) (join-append next others
      ∙ ap₂ (λ x y. x ++ y) (tree-by (is_after h) g r n joins-one)
      (joined-children g (children_after e (children_in t)) joins-one)))

  until-pairs : (h : Bool) (s : List ℕ) (t : Trie V) (v : Option V) (e : Option ℕ) (n : Option (Trie V)) (r : List ℕ)
      → is_canonical t ≡ true → StepsUntil h s t v e n r → pairs_until h s (pairs_of t) ≡ with_prefix (prefix_of t)
      ((own_pair v ++ children_pairs (children_before e (children_in t))) ++ pairs_until h r (tree_pairs n))
  until-pairs h s t v e n r c w =
      let g = one_segment in
      let k : SegmentList = g (prefix_of t) in
      let next : List (SegmentList × V) = entries_until h r (tree_entries g n) in
      let others : List (SegmentList × V) = children_entries g (children_before e (children_in t)) in
      sym (tree-by (is_before h) g s (Some t) joins-one)
      ∙ ap join_all (sym (after-none (entries_until h s (entries_of g t))) ∙ until-step g h [] s t v e n r joins-one c w
      ∙ sym (after-append k (value_at [] v ++ others) next))
      ∙ join-after k ((value_at [] v ++ others) ++ next)
      ∙ ap (λ q. with_prefix q (join_all ((value_at [] v ++ others) ++ next))) (joins-one (prefix_of t))
      ∙ ap (with_prefix (prefix_of t)) (join-append (value_at [] v ++ others) next
      ∙ ap₂ (λ x y. x ++ y) (join-append (value_at [] v) others
      ∙ ap₂ (λ x y. x ++ y) (join-own v) (joined-children g (children_before e (children_in t)) joins-one))
      (tree-by (is_before h) g r n joins-one))

  first-beside : (h : Bool) (r : List ℕ) (v : Option V) (n : Option (Trie V)) (es : List (List ℕ × V)) → IsFirst v n
      → slice_get (own_pair v ++ (pairs_from h r (tree_pairs n) ++ es)) 0
      ≡ option_or (slice_get (pairs_from h r (tree_pairs n)) 0) (slice_get (own_pair v ++ es) 0)
  first-beside h r v None es w = refl
  first-beside h r v (Some t) es w = rw w (first-or (pairs_from h r (pairs_of t)) es)

  -- at a node: what is sought below the child, or else the nearest beside it
  nearest-step : (e : End) (h : Bool) (s : List ℕ) (t : Trie V) (v : Option V) (b : Option ℕ) (n : Option (Trie V))
      (r : List ℕ) → is_canonical t ≡ true → StepsToward e h s t v b n r → nearest e h s (pairs_of t)
      ≡ after_bytes (prefix_of t) (option_or (nearest e h r (tree_pairs n))
      (end_of e (own_pair v ++ children_pairs (children_toward e b (children_in t)))))
  nearest-step First h s t v b n r c w =
      let others : List (List ℕ × V) = children_pairs (children_after b (children_in t)) in
      ap (end_of First) (from-pairs h s t v b n r c w)
      ∙ end_of-map First (λ x. (prefix_of t ++ x.0, x.1)) (own_pair v ++ (pairs_from h r (tree_pairs n) ++ others))
      ∙ ap (after_bytes (prefix_of t)) (first-beside h r v n others (step-first h s t v b n r w))
  nearest-step Last h s t v b n r c w =
      let beside : List (List ℕ × V) = own_pair v ++ children_pairs (children_before b (children_in t)) in
      ap (end_of Last) (until-pairs h s t v b n r c w)
      ∙ end_of-map Last (λ x. (prefix_of t ++ x.0, x.1)) (beside ++ pairs_until h r (tree_pairs n))
      ∙ ap (after_bytes (prefix_of t)) (last-or beside (pairs_until h r (tree_pairs n)))

  -- no key of a node is sought
  none-nearest : (e : End) (h : Bool) (s : List ℕ) (t : Trie V) → AllCompare (is_passed e) (prefix_of t) s
      → nearest e h s (pairs_of t) ≡ None
  none-nearest First h s t a = ap (end_of First) (sym (tree-by (is_after h) one_segment s (Some t) joins-one)
      ∙ ap join_all (by-apart (is_after h) Less one_segment s t joins-one a))
  none-nearest Last h s t a = ap (end_of Last) (sym (tree-by (is_before h) one_segment s (Some t) joins-one)
      ∙ ap join_all (by-apart (is_before h) Greater one_segment s t joins-one a))

  nearest-nil : (e : End) (h : Bool) (s : List ℕ) → nearest {V = V} e h s [] ≡ None
  nearest-nil First h s = refl
  nearest-nil Last h s = refl

  step-strip : (e : End) (h : Bool) (s : List ℕ) (t u : Trie V) (v : Option V) (b : Option ℕ) (r : List ℕ)
      → StepsToward e h s t v b (Some u) r → strip_prefix (prefix_of t) s ≡ Some r
  step-strip First h s t u v b r w = strip w
    where
      strip : Steps Greater None None h s t v b (Some u) r → strip_prefix (prefix_of t) s ≡ Some r
      strip (whole a x y z) = absurd (cc)
      strip (own_key f o x y z) = absurd (cc)
      strip (in_child c f o x y z) = f
  step-strip Last h s t u v b r w = strip w
    where
      strip : StepsUntil h s t v b (Some u) r → strip_prefix (prefix_of t) s ≡ Some r
      strip (whole a x y z) = absurd (cc)
      strip (own_key f o x y z) = absurd (cc)
      strip (in_child c f o x y z) = f

  pub toward-child : (e : End) (h : Bool) (s : List ℕ) (t : Trie V) (v : Option V) (b : Option ℕ) (n : Option (Trie V))
      (r : List ℕ) → StepsToward e h s t v b n r → IsChildOf t n
  toward-child First h s t v b n r w = step-child h s t v b n r w
  toward-child Last h s t v b n r w = step-child h s t v b n r w

  pub toward-visits : (e : End) (h : Bool) (s : List ℕ) (t : Trie V) (v : Option V) (b : Option ℕ)
      (n : Option (Trie V)) (r : List ℕ) → is_canonical t ≡ true → StepsToward e h s t v b n r
      → entered_nodes s t ≡ 1 + tree_entered r n
  toward-visits First h s t v b n r c w = step-visits h s t v b n r c w
  toward-visits Last h s t v b n r c w = step-visits h s t v b n r c w

  -- A descent to s over the pairs es is at the node t, where r remains of s. The nearest pair that it passed is
  -- `found`.
  pub record SeeksAt (e : End) (h : Bool) (s : List ℕ) (es : List (List ℕ × V)) (r : List ℕ) (t : Trie V)
      (found : Option (List ℕ × V)) : Type 0 where
    pub passed : List ℕ
    pub bound : s ≡ passed ++ r
    pub still : option_or (after_bytes passed (nearest e h r (pairs_of t))) found ≡ nearest e h s es

  -- or it has ended
  abbrev pub Seeks : End → Bool → List ℕ → List (List ℕ × V) → List ℕ → Option (Trie V) → Option (List ℕ × V) → Type 0
  Seeks e h s es r None found = found ≡ nearest e h s es
  Seeks e h s es r (Some t) found = SeeksAt e h s es r t found

  pub seek-start : (e : End) (h : Bool) (s : List ℕ) (o : Option (Trie V)) → Seeks e h s (tree_pairs o) s o None
  seek-start e h s None = sym (nearest-nil e h s)
  seek-start e h s (Some t) = record {
    passed = [];
    bound = refl;
    still = or-none (option_map (λ x. x) (nearest e h s (pairs_of t))) ∙ option_map_id (nearest e h s (pairs_of t));
  }

  pub seek-on : (e : End) (h : Bool) (s : List ℕ) (es : List (List ℕ × V)) (r : List ℕ) (t : Trie V)
      (found : Option (List ℕ × V)) (v : Option V) (b : Option ℕ) (n : Option (Trie V)) (r1 : List ℕ) (d : ℕ)
      (place found1 : Option (List ℕ × V)) → is_canonical t ≡ true → SeeksAt e h s es r t found
      → StepsToward e h r t v b n r1 → d ≡ length s - length r
      → place ≡ end_of e (own_pair v ++ children_pairs (children_toward e b (children_in t)))
      → found1 ≡ option_or (after_bytes (take d s ++ prefix_of t) place) found
      → Seeks e h s es r1 n found1
  seek-on e h s es r t found v b n r1 d place found1 c w l i p f = on n l
    where
      front : take d s ≡ w.passed
      front = let same : d ≡ length w.passed = omega (arith, i, ap length w.bound, length-append w.passed r) in
          rw (same, w.bound) (take-append_seam w.passed r)

      beside : Option (List ℕ × V)
      beside = end_of e (own_pair v ++ children_pairs (children_toward e b (children_in t)))

      kept : after_bytes (take d s ++ prefix_of t) place ≡ after_bytes (w.passed ++ prefix_of t) beside
      kept = rw (front, p) refl

      on : (n : Option (Trie V)) → StepsToward e h r t v b n r1 → Seeks e h s es r1 n found1
      on None l = f ∙ ap (λ z. option_or z found) (kept ∙ after-twice w.passed (prefix_of t) beside
          ∙ ap (after_bytes w.passed)
          (ap (λ z. after_bytes (prefix_of t) (option_or z beside)) (sym (nearest-nil e h r1))
          ∙ sym (nearest-step e h r t v b None r1 c l))) ∙ w.still
      on (Some u) l =
          let next = nearest e h r1 (pairs_of u) in
          let q = w.passed ++ prefix_of t in
          record {
            passed = q;
            bound = w.bound ∙ ap (λ z. w.passed ++ z)
                (sym (strip_prefix-is (prefix_of t) r r1 (step-strip e h r t u v b r1 l)))
                ∙ sym (append_assoc w.passed (prefix_of t) r1);
            still = ap (option_or (after_bytes q next)) (f ∙ ap (λ z. option_or z found) kept)
                ∙ sym (or-or (after_bytes q next) (after_bytes q beside) found)
                ∙ ap (λ z. option_or z found) (sym (map-or (λ x. (q ++ x.0, x.1)) next beside)
                ∙ after-twice w.passed (prefix_of t) (option_or next beside)
                ∙ ap (after_bytes w.passed) (sym (nearest-step e h r t v b (Some u) r1 c l)))
                ∙ w.still;
          }

  pub seek-past : (e : End) (h : Bool) (s : List ℕ) (es : List (List ℕ × V)) (r : List ℕ) (t : Trie V)
      (found : Option (List ℕ × V)) → SeeksAt e h s es r t found → AllCompare (is_passed e) (prefix_of t) r
      → found ≡ nearest e h s es
  seek-past e h s es r t found w a
      = ap (λ z. option_or (after_bytes w.passed z) found) (sym (none-nearest e h r t a)) ∙ w.still
