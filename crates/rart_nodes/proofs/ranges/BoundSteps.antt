-- What is left of the entries at each step of a descent to a bound.
use Rattle.std.proofs.Common.{◌≡◌, ℕ, Bool, true, List, [], ◌++◌, reverse, Option, sym, ap, ◌∙◌, arith}
use Rattle.std.proofs.Common.{Less, Greater}
use Rattle.std.proofs.lemmas.List.{append-nil, append_assoc}
use Rattle.rart_nodes.specs.ranges.DescendingWalk.{DescendingLevel, remaining_entries}
use Rattle.rart_nodes.specs.ranges.Steps.{AllCompare, StepsFrom, StepsUntil, whole, own_key, in_child, children_after}
use Rattle.rart_nodes.specs.ranges.UpperBounds.{entries_until, if_included}
use Rattle.rart_trie.specs.ranges.Starts.{children_above, entries_from}
use Rattle.rart_trie.specs.ranges.Under.{children_before, children_under}
use Rattle.rart_trie.specs.tries.CanonicalTest.{is_canonical}
use Rattle.rart_trie.specs.tries.Trie.{Trie, children_in, child_in, prefix_of, value_of}
use Rattle.rart_trie.specs.walks.Walk.{SegmentList, Grown, Joins, Level, segments_after, value_at, entries_of}
use Rattle.rart_trie.specs.walks.Walk.{children_entries, entries_below, tree_entries}
use Rattle.rart_nodes.proofs.ranges.ComparedEntries.{is_after, is_before, under-nothing, by-apart, by-ended, by-on}
use Rattle.rart_nodes.proofs.walks.PathLemmas.{below-canonical}
use Rattle.rart_nodes.proofs.walks.WalkLemmas.{after-append, after-none, after-own, after-twice, own-entries}

module _ {V : Type 0} where
  -- at a node t, to which the path is k, with s left of the start
  pub from-step : (g : Grown) (h : Bool) (k : SegmentList) (s : List ℕ) (t : Trie V) (v : Option V) (e : Option ℕ)
      (n : Option (Trie V)) (r : List ℕ) → Joins g → is_canonical t ≡ true → StepsFrom h s t v e n r
      → segments_after k (entries_from h s (entries_of g t)) ≡ value_at (k ++ g (prefix_of t)) v
      ++ (segments_after (k ++ g (prefix_of t)) (entries_from h r (tree_entries g n))
      ++ segments_after (k ++ g (prefix_of t)) (children_entries g (children_after e (children_in t))))
  from-step g h k s t v e n r j c (whole a x y z)
      = rw (x, y, z) (ap (segments_after k) (by-apart (is_after h) Greater g s t j a) ∙ own-entries g k t
      ∙ after-own (k ++ g (prefix_of t)) (value_of t) (children_entries g (children_in t)))
  from-step g h k s t v e n r j c (own_key f o x y z) =
      let es : List (SegmentList × V) = children_entries g (children_in t) in
      let own : Option V = if_included h (value_of t) in
      rw (x, y, z) (ap (segments_after k) (by-ended (is_after h) g s r t j c f o)
      ∙ after-twice k (g (prefix_of t)) (value_at [] own ++ es) ∙ after-own (k ++ g (prefix_of t)) own es)
  from-step g h k s t v e n r j c (in_child b f o x y z) =
      let next : List (SegmentList × V) = entries_from h r (tree_entries g (child_in b t)) in
      let above : List (SegmentList × V) = children_entries g (children_above b (children_in t)) in
      rw (x, y, z) (ap (segments_after k) (by-on (is_after h) g s r b t j c f o)
      ∙ after-twice k (g (prefix_of t)) (next ++ above) ∙ after-append (k ++ g (prefix_of t)) next above)

  -- with s left of the end
  pub until-step : (g : Grown) (h : Bool) (k : SegmentList) (s : List ℕ) (t : Trie V) (v : Option V) (e : Option ℕ)
      (n : Option (Trie V)) (r : List ℕ) → Joins g → is_canonical t ≡ true → StepsUntil h s t v e n r
      → segments_after k (entries_until h s (entries_of g t))
      ≡ segments_after (k ++ g (prefix_of t)) (value_at [] v
      ++ children_entries g (children_before e (children_in t)))
      ++ segments_after (k ++ g (prefix_of t)) (entries_until h r (tree_entries g n))
  until-step g h k s t v e n r j c (whole a x y z)
      = rw (x, y, z) (ap (segments_after k) (by-apart (is_before h) Less g s t j a) ∙ own-entries g k t
      ∙ sym (append-nil _))
  until-step g h k s t v e n r j c (own_key f o x y z)
      = rw (x, y, z, under-nothing 0 0 (children_in t) (omega arith) (below-canonical t c))
      (ap (segments_after k) (by-ended (is_before h) g s r t j c f o)
      ∙ after-twice k (g (prefix_of t)) (value_at [] (if_included h (value_of t)) ++ []) ∙ sym (append-nil _))
  until-step g h k s t v e n r j c (in_child b f o x y z) =
      let own : List (SegmentList × V) = value_at [] (value_of t) in
      let under : List (SegmentList × V) = children_entries g (children_under b (children_in t)) in
      let next : List (SegmentList × V) = entries_until h r (tree_entries g (child_in b t)) in
      rw (x, y, z) (ap (segments_after k) (by-on (is_before h) g s r b t j c f o)
      ∙ after-twice k (g (prefix_of t)) (own ++ (under ++ (next ++ [])))
      ∙ ap (segments_after (k ++ g (prefix_of t))) (ap (λ z. own ++ (under ++ z)) (append-nil next)
      ∙ sym (append_assoc own under next))
      ∙ after-append (k ++ g (prefix_of t)) (own ++ under) next)

  -- what is ahead in all, where B is below the levels above the node, and S below all levels
  pub ahead-step : (g : Grown) (h : Bool) (k k1 : SegmentList) (s : List ℕ) (t : Trie V) (v : Option V) (e : Option ℕ)
      (n : Option (Trie V)) (r : List ℕ) (B S total : List (SegmentList × V)) → Joins g → is_canonical t ≡ true
      → StepsFrom h s t v e n r → k1 ≡ k ++ g (prefix_of t)
      → S ≡ segments_after k1 (children_entries g (children_after e (children_in t))) ++ B
      → segments_after k (entries_from h s (entries_of g t)) ++ B ≡ total
      → value_at k1 v ++ (segments_after k1 (entries_from h r (tree_entries g n)) ++ S) ≡ total
  ahead-step g h k k1 s t v e n r B S total j c w i d q =
      let p : SegmentList = k ++ g (prefix_of t) in
      let next : List (SegmentList × V) = segments_after p (entries_from h r (tree_entries g n)) in
      let kept : List (SegmentList × V) = segments_after p (children_entries g (children_after e (children_in t))) in
      let below : S ≡ kept ++ B = rw i at d in
      rw i (ap (λ z. value_at p v ++ (next ++ z)) below
      ∙ ap (λ z. value_at p v ++ z) (sym (append_assoc next kept B))
      ∙ sym (append_assoc (value_at p v) (next ++ kept) B)
      ∙ ap (λ z. z ++ B) (sym (from-step g h k s t v e n r j c w)) ∙ q)

  -- where each key of the node is less than the start
  pub ahead-lower : (g : Grown) (h : Bool) (k : SegmentList) (s : List ℕ) (t : Trie V)
      (B total : List (SegmentList × V)) → Joins g → AllCompare Less (prefix_of t) s
      → segments_after k (entries_from h s (entries_of g t)) ++ B ≡ total → B ≡ total
  ahead-lower g h k s t B total j a r
      = ap (λ z. segments_after k z ++ B) (sym (by-apart (is_after h) Less g s t j a)) ∙ r

  -- before anything was walked
  pub ahead-start : (g : Grown) (k : SegmentList) (st : List (Level V)) (es : List (SegmentList × V)) → k ≡ [] → st ≡ []
      → segments_after k es ++ entries_below g k (reverse st) ≡ es
  ahead-start g k st es e f = rw (e, f) (append-nil (segments_after [] es) ∙ after-none es)

  -- all that remains, where B is at the levels above the node, and S at all levels
  pub remaining-step : (g : Grown) (h : Bool) (k k1 : SegmentList) (s : List ℕ) (t : Trie V) (v : Option V)
      (e : Option ℕ) (n : Option (Trie V)) (r : List ℕ) (B S total : List (SegmentList × V)) → Joins g
      → is_canonical t ≡ true → StepsUntil h s t v e n r → k1 ≡ k ++ g (prefix_of t)
      → S ≡ B ++ segments_after k1 (value_at [] v ++ children_entries g (children_before e (children_in t)))
      → B ++ segments_after k (entries_until h s (entries_of g t)) ≡ total
      → S ++ segments_after k1 (entries_until h r (tree_entries g n)) ≡ total
  remaining-step g h k k1 s t v e n r B S total j c w i d q =
      let p : SegmentList = k ++ g (prefix_of t) in
      let next : List (SegmentList × V) = segments_after p (entries_until h r (tree_entries g n)) in
      let kept : List (SegmentList × V) = segments_after p (value_at [] v
      ++ children_entries g (children_before e (children_in t))) in
      let below : S ≡ B ++ kept = rw i at d in
      rw i (ap (λ z. z ++ next) below ∙ append_assoc B kept next
      ∙ ap (λ z. B ++ z) (sym (until-step g h k s t v e n r j c w)) ∙ q)

  -- where each key of the node is greater than the end
  pub remaining-higher : (g : Grown) (h : Bool) (k : SegmentList) (s : List ℕ) (t : Trie V)
      (B total : List (SegmentList × V)) → Joins g → AllCompare Greater (prefix_of t) s
      → B ++ segments_after k (entries_until h s (entries_of g t)) ≡ total → B ≡ total
  remaining-higher g h k s t B total j a r = sym (append-nil B)
      ∙ ap (λ z. B ++ segments_after k z) (sym (by-apart (is_before h) Greater g s t j a)) ∙ r

  pub remaining-start : (g : Grown) (k : SegmentList) (st : List (DescendingLevel V)) (es : List (SegmentList × V))
      → k ≡ []
      → st ≡ [] → remaining_entries g k (reverse st) ++ segments_after k es ≡ es
  remaining-start g k st es e f = rw (e, f) (after-none es)
