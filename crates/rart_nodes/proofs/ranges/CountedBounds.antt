-- How many pairs at and below a node are within two bounds, and how many nodes are visited to count them.
use Rattle.std.proofs.Common.{◌≡◌, ℕ, suc, ◌+◌, ◌*◌, ◌<◌, ◌≤◌, ⊎_elim, ◌&&◌, Bool, true, false, List, [], ◌∷◌, ◌++◌}
use Rattle.std.proofs.Common.{length, length-append, Option, Some, None, refl, sym, ap, ap₂, ◌∙◌, arith, if◌then◌else◌}
use Rattle.std.proofs.Common.{Less, Greater, ◌||◌, subst}
use Rattle.std.specs.List.{filter}
use Rattle.std.specs.Ordering.{nat_cmp}
use Rattle.std.specs.Cmp.Lexicographic.{slice_cmp}
use Rattle.std.specs.declared.cmp.Ordering.{Ordering}
use Rattle.std.specs.declared.ops.Bound.{Bound}
use Rattle.std.specs.declared.ops.Bound.TheVariants.{Included, Excluded, Unbounded}
use Rattle.std.proofs.lemmas.List.{length-map}
use Rattle.std.proofs.lemmas.List.Elements.{filter-append}
use Rattle.rart_keys.specs.ByteStrings.{strip_prefix}
use Rattle.rart_keys.specs.Ranges.{bound_bytes}
use Rattle.rart_keys.specs.SortedMap.{keys_of}
use Rattle.rart_keys.proofs.strings.ByteOrder.{order, is_less, is_equal, is_greater}
use Rattle.rart_trie.specs.declared.node.ends.End.{End}
use Rattle.rart_trie.specs.declared.node.ends.End.TheVariants.{First, Last}
use Rattle.rart_trie.specs.tries.CanonicalTest.{is_canonical}
use Rattle.rart_trie.specs.tries.PrefixLaws.{length-with_prefix}
use Rattle.rart_trie.specs.tries.Tree.{tree_pairs}
use Rattle.rart_trie.specs.tries.Trie.{Trie, node, Children, no_children, child, pairs_of, children_pairs, own_pair}
use Rattle.rart_trie.specs.tries.Trie.{children_in, value_of, prefix_of, with_prefix, AreCanonical, by_rest}
use Rattle.rart_trie.specs.tries.Trie.{descend_child, descend_tree}
use Rattle.rart_trie.specs.walks.ProbeCount.{counts, entered_nodes, probe_count}
use Rattle.rart_trie.proofs.tries.CanonicalTests.{IsCanonical-test, canonical-lower}
use Rattle.rart_trie.proofs.tries.Descents.{child_of-low, descend-child_of}
use Rattle.rart_trie.proofs.tries.FirstBytes.{AllFirst, pairs_of-first}
use Rattle.rart_trie.proofs.tries.StepLemmas.{root-entered}
use Rattle.rart_trie.specs.ranges.BoundCuts.{bound_at, bound_by, bound_past, bound_with, first_cmp, is_bounded}
use Rattle.rart_trie.specs.ranges.BoundCuts.{is_inside, path_count, rest_past, unbounded_if}
use Rattle.rart_nodes.proofs.ranges.ComparedEntries.{filter-map}
use Rattle.rart_trie.proofs.ranges.BoundCutLemmas.{in-at, in-past, is_in_some, later-none, no-bytes, none-of}

-- 1 where there is a bound
abbrev one_if : Bool → ℕ
one_if true = 1
one_if false = 0

some-by : (r : Option (List ℕ)) (f : ℕ → List ℕ → ℕ) → 1 ≤ by_rest 1 1 (λ n. 1 + n) r f
some-by None f = omega arith
some-by (Some []) f = omega arith
some-by (Some (b ∷ r)) f = omega arith

one-of : (x y : Bool) → x || y ≡ true → 1 ≤ one_if x + one_if y
one-of true y h = omega arith
one-of false true h = omega arith
one-of false false h = absurd (cc)

-- whether a key is within both bounds, if there are both
abbrev is_in_both : Option (Bound (List ℕ)) → Option (Bound (List ℕ)) → List ℕ → Bool
is_in_both a b k = is_in_some First a k && is_in_some Last b k

module _ {V : Type 0} where
  -- how many pairs are
  abbrev pub count_in : Option (Bound (List ℕ)) → Option (Bound (List ℕ)) → List (List ℕ × V) → ℕ
  count_in a b es = length (filter (λ e. is_in_both a b e.0) es)

  none-start : (b : Option (Bound (List ℕ))) (es : List (List ℕ × V)) → count_in None b es ≡ 0
  none-start b [] = refl
  none-start b (e ∷ es) = none-start b es

  none-end : (a : Option (Bound (List ℕ))) (es : List (List ℕ × V)) → count_in a None es ≡ 0
  none-end a [] = refl
  none-end a (e ∷ es) = elim (is_in_some First a e.0)
      as (λ z. length (if z && false then e ∷ filter (λ x. is_in_both a None x.0) es
      else filter (λ x. is_in_both a None x.0) es) ≡ 0) [ true ↦ none-end a es | false ↦ none-end a es ]

  all-in : (es : List (List ℕ × V)) → count_in (Some Unbounded) (Some Unbounded) es ≡ length es
  all-in [] = refl
  all-in (e ∷ es) = ap suc (all-in es)

  -- without a bound each is
  pub all-counted : (a b : Bound (List ℕ)) (es : List (List ℕ × V)) → is_bounded a || is_bounded b ≡ false
      → count_in (Some a) (Some b) es ≡ length es
  all-counted a b es h = let n = none-of (is_bounded a) (is_bounded b) h in
      rw (no-bytes a n.0, no-bytes b n.1) (all-in es)

  pub count-append : (a b : Option (Bound (List ℕ))) (xs ys : List (List ℕ × V))
      → count_in a b (xs ++ ys) ≡ count_in a b xs + count_in a b ys
  count-append a b xs ys = ap length (filter-append (λ e. is_in_both a b e.0) xs ys)
      ∙ length-append (filter (λ e. is_in_both a b e.0) xs) (filter (λ e. is_in_both a b e.0) ys)

  pub count-few : (a b : Option (Bound (List ℕ))) (es : List (List ℕ × V)) → count_in a b es ≤ length es
  count-few a b [] = omega arith
  count-few a b (e ∷ es) = elim (is_in_both a b e.0)
      as (λ z. length (if z then e ∷ filter (λ x. is_in_both a b x.0) es else filter (λ x. is_in_both a b x.0) es)
      ≤ length (e ∷ es)) [ true ↦ omega (arith, count-few a b es) | false ↦ omega (arith, count-few a b es) ]

  -- at a node, by what follows its prefix
  count-past : (a b : Bound (List ℕ)) (p : List ℕ) (es : List (List ℕ × V))
      → count_in (Some a) (Some b) (with_prefix p es) ≡ count_in (bound_past First p a) (bound_past Last p b) es
  count-past a b p es = ap length (filter-map (λ e. (p ++ e.0, e.1))
      (λ e. is_in_both (bound_past First p a) (bound_past Last p b) e.0) (λ e. is_in_both (Some a) (Some b) e.0) es
      (λ e. ap₂ (λ x y. x && y) (in-past First p a e.0) (in-past Last p b e.0)))
      ∙ length-map (filter (λ e. is_in_both (bound_past First p a) (bound_past Last p b) e.0) es)
      (λ e. (p ++ e.0, e.1))

  -- at a child, by its byte
  count-at : (a b : Bound (List ℕ)) (c : ℕ) (es : List (List ℕ × V)) → AllFirst c es
      → count_in (Some a) (Some b) es ≡ count_in (bound_at First c a) (bound_at Last c b) es
  count-at a b c [] f = refl
  count-at a b c (e ∷ es) f =
      let o = bound_at First c a in
      let u = bound_at Last c b in
      let rest = count-at a b c es f.1 in
      let same : is_in_both (Some a) (Some b) e.0 ≡ is_in_both o u e.0
      = ap₂ (λ x y. x && y) (in-at First c a e.0 f.0) (in-at Last c b e.0 f.0) in
      ap (λ (z : Bool). length (if z then e ∷ filter (λ x. is_in_both (Some a) (Some b) x.0) es
      else filter (λ x. is_in_both (Some a) (Some b) x.0) es)) same
      ∙ elim (is_in_both o u e.0) as (λ z. length (if z then e ∷ filter (λ x. is_in_both (Some a) (Some b) x.0) es
      else filter (λ x. is_in_both (Some a) (Some b) x.0) es)
      ≡ length (if z then e ∷ filter (λ x. is_in_both o u x.0) es else filter (λ x. is_in_both o u x.0) es))
      [ true ↦ ap suc rest | false ↦ rest ]

  -- past the end
  none-later : (a b : Bound (List ℕ)) (c low : ℕ) (cs : Children V) → c ≤ low → AreCanonical low cs
      → bound_at Last c b ≡ None → count_in (Some a) (Some b) (children_pairs cs) ≡ 0
  none-later a b c low no_children l w n = refl
  none-later a b c low (child d t cs) l w n = omega (
    arith,
    count-append (Some a) (Some b) (pairs_of t) (children_pairs cs),
    count-at a b d (pairs_of t) (pairs_of-first d t w.1),
    ap (λ z. count_in (bound_at First d a) z (pairs_of t)) (later-none b c d (omega (arith, l, w.0)) n),
    none-end (bound_at First d a) (pairs_of t),
    none-later a b c (suc d) cs (omega (arith, l, w.0)) w.3 n,
  )

  -- how many nodes the path to a bound has at and below a node, if there is a bound
  abbrev path_some : Option (Bound (List ℕ)) → Trie V → ℕ
  path_some None t = 0
  path_some (Some a) t = path_count a t

  -- how many nodes the path to some bytes has among children
  abbrev path_by : List ℕ → Children V → ℕ
  path_by [] cs = 0
  path_by (b ∷ s) cs = descend_child counts b (b ∷ s) cs

  abbrev path_below : Bound (List ℕ) → Children V → ℕ
  path_below Unbounded cs = 0
  path_below (Included s) cs = path_by s cs
  path_below (Excluded s) cs = path_by s cs

  -- the most nodes that are visited at and below a child, and those of children
  abbrev most_at : Option (Bound (List ℕ)) → Option (Bound (List ℕ)) → Trie V → ℕ
  most_at None b t = 0
  most_at (Some a) None t = 0
  most_at (Some a) (Some b) t = path_count a t + path_count b t + 2 * count_in (Some a) (Some b) (pairs_of t)

  abbrev pub most_below : Bound (List ℕ) → Bound (List ℕ) → Children V → ℕ
  most_below a b no_children = 0
  most_below a b (child c t cs) = most_at (bound_at First c a) (bound_at Last c b) t + most_below a b cs

  count-with : (h : Bool) (s : List ℕ) (t : Trie V) → path_count (bound_with h s) t ≡ entered_nodes s t
  count-with true s t = refl
  count-with false s t = refl

  below-with : (h : Bool) (s : List ℕ) (cs : Children V) → path_below (bound_with h s) cs ≡ path_by s cs
  below-with true s cs = refl
  below-with false s cs = refl

  path-unbounded : (z : Bool) (t : Trie V) → path_some (unbounded_if z) t ≡ 0
  path-unbounded true t = refl
  path-unbounded false t = refl

  below-unbounded : (z : Bool) (a : Bound (List ℕ)) (cs : Children V) → unbounded_if z ≡ Some a → path_below a cs ≡ 0
  below-unbounded true a cs h = let i : Unbounded ≡ a = cc in rw (← i) refl
  below-unbounded false a cs h = absurd (cc)

  low-absent : (b low : ℕ) (s : List ℕ) (cs : Children V) → b < low → AreCanonical low cs
      → descend_child counts b s cs ≡ 0
  low-absent b low s cs h w = descend-child_of counts b low s cs w
      ∙ ap (descend_tree counts s) (child_of-low b low cs h w)

  -- at a node: the path to a bound goes on to its children
  path-followed : (r : List ℕ) (cs : Children V)
      → 1 + path_by r cs ≡ by_rest 1 1 (λ n. 1 + n) (Some r) (λ b k. descend_child counts b k cs)
  path-followed [] cs = refl
  path-followed (b ∷ r) cs = refl

  rest-path : (e : End) (o : Ordering) (h : Bool) (r : Option (List ℕ)) (a : Bound (List ℕ)) (cs : Children V)
      → rest_past e o h r ≡ Some a
      → 1 + path_below a cs ≡ by_rest 1 1 (λ n. 1 + n) r (λ b k. descend_child counts b k cs)
  rest-path e o h None a cs q = rw (below-unbounded (is_inside e o) a cs q) refl
  rest-path e o h (Some r) a cs q = let i : bound_with h r ≡ a = cc in
      rw (← i, below-with h r cs) (path-followed r cs)

  path-past : (e : End) (a o : Bound (List ℕ)) (t : Trie V) → bound_past e (prefix_of t) a ≡ Some o
      → one_if (is_bounded a) + path_below o (children_in t) ≤ path_count a t
  path-past e Unbounded o t q = let i : Unbounded ≡ o = cc in rw (← i) (omega arith)
  path-past e (Included s) o (node p v n cs) q
      = omega (arith, rest-path e (slice_cmp nat_cmp p s) true (strip_prefix p s) o cs q)
  path-past e (Excluded s) o (node p v n cs) q
      = omega (arith, rest-path e (slice_cmp nat_cmp p s) false (strip_prefix p s) o cs q)

  path-some : (a : Bound (List ℕ)) (t : Trie V) → one_if (is_bounded a) ≤ path_count a t
  path-some Unbounded t = omega arith
  path-some (Included s) (node p v n cs) = some-by (strip_prefix p s) (λ b k. descend_child counts b k cs)
  path-some (Excluded s) (node p v n cs) = some-by (strip_prefix p s) (λ b k. descend_child counts b k cs)

  -- at a child
  step-with : (e : End) (h : Bool) (c : ℕ) (s : List ℕ) (t : Trie V) (cs : Children V) → AreCanonical (suc c) cs
      → path_some (bound_by e (bound_with h s) (first_cmp c s)) t + path_by s cs ≤ path_by s (child c t cs)
  step-with e h c [] t cs w = omega (arith, path-unbounded (is_inside e Greater) t)
  step-with e h c (b ∷ s) t cs w = ⊎_elim
      (λ l. rw (is_less c b l, is_greater b c l) (omega (arith, path-unbounded (is_inside e Less) t)))
      (⊎_elim
      (λ q. rw (
        is_equal c b q,
        is_equal b c (sym q),
        low-absent b (suc c) (b ∷ s) cs (omega (arith, q)) w,
        count-with h (b ∷ s) t,
      ) (omega arith))
      (λ l. rw (is_greater c b l, is_less b c l, low-absent b (suc c) (b ∷ s) cs (omega (arith, l)) w)
      (omega (arith, path-unbounded (is_inside e Greater) t)))) (order c b)

  step-path : (e : End) (c : ℕ) (a : Bound (List ℕ)) (t : Trie V) (cs : Children V) → AreCanonical (suc c) cs
      → path_some (bound_at e c a) t + path_below a cs ≤ path_below a (child c t cs)
  step-path e c Unbounded t cs w = omega arith
  step-path e c (Included s) t cs w = step-with e true c s t cs w
  step-path e c (Excluded s) t cs w = step-with e false c s t cs w

  few-at : (a b : Option (Bound (List ℕ))) (t : Trie V)
      → most_at a b t ≤ path_some a t + path_some b t + 2 * count_in a b (pairs_of t)
  few-at None b t = omega arith
  few-at (Some a) None t = omega arith
  few-at (Some a) (Some b) t = omega arith

  few-below : (low : ℕ) (a b : Bound (List ℕ)) (cs : Children V) → AreCanonical low cs → most_below a b cs
      ≤ path_below a cs + path_below b cs + 2 * count_in (Some a) (Some b) (children_pairs cs)
  few-below low a b no_children w = omega arith
  few-below low a b (child c t cs) w = omega (
    arith,
    few-at (bound_at First c a) (bound_at Last c b) t,
    step-path First c a t cs w.3,
    step-path Last c b t cs w.3,
    count-append (Some a) (Some b) (pairs_of t) (children_pairs cs),
    count-at a b c (pairs_of t) (pairs_of-first c t w.1),
    few-below (suc c) a b cs w.3,
  )

  -- a node of which no key is within one of the bounds
  pub outside : (a b : Bound (List ℕ)) (t : Trie V) → (bound_past First (prefix_of t) a ≡ None)
      → count_in (Some a) (Some b) (pairs_of t) ≡ 0
  outside a b (node p v n cs) q = count-past a b p (own_pair v ++ children_pairs cs)
      ∙ ap (λ z. count_in z (bound_past Last p b) (own_pair v ++ children_pairs cs)) q
      ∙ none-start (bound_past Last p b) (own_pair v ++ children_pairs cs)

  pub outside-end : (a b : Bound (List ℕ)) (t : Trie V) → (bound_past Last (prefix_of t) b ≡ None)
      → count_in (Some a) (Some b) (pairs_of t) ≡ 0
  outside-end a b (node p v n cs) q = count-past a b p (own_pair v ++ children_pairs cs)
      ∙ ap (λ z. count_in (bound_past First p a) z (own_pair v ++ children_pairs cs)) q
      ∙ none-end (bound_past First p a) (own_pair v ++ children_pairs cs)

  -- at another: its own pair and those of its children are counted by the bounds after its prefix
  pub inside : (a b o u : Bound (List ℕ)) (t : Trie V) → bound_past First (prefix_of t) a ≡ Some o
      → bound_past Last (prefix_of t) b ≡ Some u → count_in (Some a) (Some b) (pairs_of t)
      ≡ count_in (Some o) (Some u) (own_pair (value_of t) ++ children_pairs (children_in t))
  inside a b o u (node p v n cs) q r = count-past a b p (own_pair v ++ children_pairs cs)
      ∙ ap₂ (λ x y. count_in x y (own_pair v ++ children_pairs cs)) q r

  -- the visits of a node that is on the path to a bound
  pub visits-outside : (a b : Bound (List ℕ)) (t : Trie V) → is_bounded a || is_bounded b ≡ true
      → 1 ≤ path_count a t + path_count b t
  visits-outside a b t h
      = omega (arith, path-some a t, path-some b t, one-of (is_bounded a) (is_bounded b) h)

  pub visits-inside : (a b o u : Bound (List ℕ)) (t : Trie V) → is_bounded a || is_bounded b ≡ true
      → is_canonical t ≡ true → bound_past First (prefix_of t) a ≡ Some o → bound_past Last (prefix_of t) b ≡ Some u
      → 1 + most_below o u (children_in t)
      ≤ path_count a t + path_count b t + 2 * count_in (Some a) (Some b) (pairs_of t)
  visits-inside a b o u (node p v n cs) h c q r = omega (
    arith,
    one-of (is_bounded a) (is_bounded b) h,
    path-past First a o (node p v n cs) q,
    path-past Last b u (node p v n cs) r,
    few-below 0 o u cs (IsCanonical-test (node p v n cs) c).2,
    inside a b o u (node p v n cs) q r,
    count-append (Some o) (Some u) (own_pair v) (children_pairs cs),
  )

  -- the next of the children: it is passed, or its pairs are counted, or it ends the count
  pub rest-canonical : (d : ℕ) (v : Trie V) (cs ds : Children V) → cs ≡ child d v ds → AreCanonical 0 cs
      → AreCanonical 0 ds
  rest-canonical d v cs ds e w = canonical-lower 0 (suc d) ds (omega arith) (subst (AreCanonical 0) e w).3

  pub fewer-pairs : (d : ℕ) (v : Trie V) (cs ds : Children V) → cs ≡ child d v ds
      → length (pairs_of v) + length (children_pairs ds) ≡ length (children_pairs cs)
  fewer-pairs d v cs ds e = rw e (sym (length-append (pairs_of v) (children_pairs ds)))

  pub few-children : (t : Trie V) → length (children_pairs (children_in t)) ≤ length (pairs_of t)
  few-children (node p v n cs) = omega (
    arith,
    length-with_prefix p (own_pair v ++ children_pairs cs),
    length-append (own_pair v) (children_pairs cs),
  )

  next-count : (o u : Bound (List ℕ)) (d : ℕ) (v : Trie V) (cs ds : Children V) → cs ≡ child d v ds
      → AreCanonical 0 cs → count_in (Some o) (Some u) (children_pairs cs)
      ≡ count_in (bound_at First d o) (bound_at Last d u) (pairs_of v) + count_in (Some o) (Some u) (children_pairs ds)
  next-count o u d v cs ds e w = omega (
    arith,
    ap (λ z. count_in (Some o) (Some u) (children_pairs z)) e,
    count-append (Some o) (Some u) (pairs_of v) (children_pairs ds),
    count-at o u d (pairs_of v) (pairs_of-first d v (subst (AreCanonical 0) e w).1),
  )

  pub passed : (o u : Bound (List ℕ)) (d : ℕ) (v : Trie V) (cs ds : Children V) → cs ≡ child d v ds
      → AreCanonical 0 cs → None ≡ bound_at First d o
      → (count_in (Some o) (Some u) (children_pairs cs) ≡ count_in (Some o) (Some u) (children_pairs ds))
      × (most_below o u cs ≡ most_below o u ds)
  passed o u d v cs ds e w n = (
    omega (
      arith,
      next-count o u d v cs ds e w,
      ap (λ z. count_in z (bound_at Last d u) (pairs_of v)) n,
      none-start (bound_at Last d u) (pairs_of v),
    ),
    omega (arith, ap (most_below o u) e, ap (λ z. most_at z (bound_at Last d u) v) n),
  )

  pub counted : (o u p q : Bound (List ℕ)) (d : ℕ) (v : Trie V) (cs ds : Children V) → cs ≡ child d v ds
      → AreCanonical 0 cs → Some p ≡ bound_at First d o → Some q ≡ bound_at Last d u
      → (count_in (Some o) (Some u) (children_pairs cs)
      ≡ count_in (Some p) (Some q) (pairs_of v) + count_in (Some o) (Some u) (children_pairs ds))
      × (most_below o u cs
      ≡ path_count p v + path_count q v + 2 * count_in (Some p) (Some q) (pairs_of v) + most_below o u ds)
  counted o u p q d v cs ds e w m n = (
    next-count o u d v cs ds e w
        ∙ ap₂ (λ x y. count_in x y (pairs_of v) + count_in (Some o) (Some u) (children_pairs ds)) (sym m) (sym n),
    ap (most_below o u) e ∙ ap₂ (λ x y. most_at x y v + most_below o u ds) (sym m) (sym n),
  )

  pub ended : (o u : Bound (List ℕ)) (d : ℕ) (v : Trie V) (cs ds : Children V) → cs ≡ child d v ds
      → AreCanonical 0 cs → None ≡ bound_at Last d u → count_in (Some o) (Some u) (children_pairs cs) ≡ 0
  ended o u d v cs ds e w n = let x = subst (AreCanonical 0) e w in
      ap (λ z. count_in (Some o) (Some u) (children_pairs z)) e
      ∙ none-later o u d d (child d v ds) (omega arith) (omega arith, x.1, x.2, x.3) (sym n)

  -- the whole paths
  pub path-probes : (a : Bound (List ℕ)) (t : Trie V) (o : Option (Trie V)) → is_canonical t ≡ true → Some t ≡ o
      → (path_count a t ≤ probe_count (keys_of (tree_pairs o)) (bound_bytes a))
      × (path_count a t ≤ length (bound_bytes a) + 1)
  path-probes Unbounded t o c e = (omega arith, omega arith)
  path-probes (Included s) t o c e = let r = root-entered s t o c e in (omega (arith, r.0), r.1)
  path-probes (Excluded s) t o c e = let r = root-entered s t o c e in (omega (arith, r.0), r.1)
