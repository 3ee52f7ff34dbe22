-- What is found at and below a prefix: the pairs whose key it begins.
use Rattle.std.proofs.Common.{◌≡◌, ℕ, ◌+◌, ◌*◌, ◌≤◌, ⊎_elim, true, false, List, [], ◌∷◌, ◌++◌, length, length-append}
use Rattle.std.proofs.Common.{refl, sym, ap, ◌∙◌, arith, Option, Some, None, subst, if◌then◌else◌}
use Rattle.std.specs.Prelude.{slice_get}
use Rattle.std.proofs.lemmas.List.{append-nil, append_assoc}
use Rattle.rart_keys.specs.ByteStrings.{strip_prefix, begins}
use Rattle.rart_keys.specs.Filters.{below}
use Rattle.rart_keys.specs.SortedMap.{longest_key, values_of}
use Rattle.rart_trie.specs.tries.PrefixLaws.{length-with_prefix, prefix-none, prefix-twice, values-with_prefix}
use Rattle.rart_trie.specs.tries.CanonicalTest.{is_canonical}
use Rattle.rart_trie.specs.tries.Tree.{tree_pairs, IsCanonicalTree}
use Rattle.rart_trie.specs.tries.Trie.{Trie, node, Children, no_children, child, pairs_of, children_pairs, own_pair}
use Rattle.rart_trie.specs.tries.Trie.{children_in, value_of}
use Rattle.rart_trie.specs.tries.Trie.{edges_of, prefix_of, child_of, child_in, with_prefix, IsCanonical, AreCanonical}
use Rattle.rart_trie.specs.tries.TrieCode.{node_count, child_count}
use Rattle.rart_nodes.specs.walks.SegmentLaws.{joined-append}
use Rattle.rart_nodes.specs.walks.Part.{finds, tree_part, part_entries}
use Rattle.rart_trie.specs.walks.Walk.{SegmentList, Grown, Joins, joined_bytes, join_all, entry_values, entries_of}
use Rattle.rart_trie.proofs.tries.CanonicalTests.{IsCanonical-test}
use Rattle.rart_trie.proofs.tries.NodeCounts.{length-own_pair, two-edges}
use Rattle.rart_trie.proofs.tries.Descents.{Keeps, descend-left, descend-on, descends}
use Rattle.rart_trie.proofs.tries.StepLemmas.{longest-of, longest-below}
use Rattle.rart_nodes.specs.walks.PathParts.{byte_segments}
use Rattle.rart_nodes.proofs.walks.EntryLemmas.{join-after, joined-entries, joins-bytes, values-after}
use Rattle.rart_nodes.proofs.walks.EntryLemmas.{values-entries}
use Rattle.rart_trie.proofs.tries.BelowLemmas.{below-after_some, below-apart, below-nil, below-child}

module _ {V : Type 0} where
  -- what was found is what is below: its keys are those of the node, after one string, which is that of the segments
  -- kept
  abbrev Finds : Grown → SegmentList → List (List ℕ × V) → Option (SegmentList × Trie V) → Type 0
  Finds g k es None = es ≡ []
  Finds g k es (Some e) = (q : List ℕ) × ((es ≡ with_prefix q (pairs_of e.1))
      × (Joins g → joined_bytes e.0 ≡ joined_bytes k ++ q))

  finds-up : (g : Grown) (k : SegmentList) (q : List ℕ) (es fs : List (List ℕ × V)) (o : Option (SegmentList × Trie V))
      → fs ≡ with_prefix q es → Finds g (k ++ g q) es o → Finds g k fs o
  finds-up g k q es fs None s h = s ∙ ap (with_prefix q) h
  finds-up g k q es fs (Some e) s h = (
    q ++ h.0,
    (
      s ∙ ap (with_prefix q) h.1.0 ∙ prefix-twice q h.0 (pairs_of e.1),
      λ j. h.1.1 j ∙ ap (λ z. z ++ h.0) (joined-append k (g q) ∙ ap (λ z. joined_bytes k ++ z) (j q))
          ∙ append_assoc (joined_bytes k) q h.0,
    ),
  )

  finds-here : (g : Grown) (k : SegmentList) (t : Trie V) (es : List (List ℕ × V)) → es ≡ pairs_of t
      → Finds g k es (Some (k, t))
  finds-here g k t es e = ([], (e ∙ sym (prefix-none (pairs_of t)), λ j. sym (append-nil (joined_bytes k))))

  finds-kept : (g : Grown) → Keeps {V = V} (finds g) (λ p o a. (k : SegmentList)
      → Finds g k (below p (tree_pairs o)) (a k))
  finds-kept g = record {
    absent = λ p k. refl;
    left = λ p q v n cs w s k. elim (begins p q) as (λ z. below p (pairs_of (node q v n cs))
        ≡ (if z then pairs_of (node q v n cs) else [])
        → Finds g k (below p (pairs_of (node q v n cs))) (if z then Some (k, node q v n cs) else None)) [
          | true ↦ λ e. finds-here g k (node q v n cs) _ e
          | false ↦ λ e. e
        ] (below-apart q p (own_pair v ++ children_pairs cs) s);
    ended = λ p q v n cs w s k. finds-here g k (node q v n cs) _
        (below-after_some q p [] (own_pair v ++ children_pairs cs) s
        ∙ ap (with_prefix q) (below-nil (own_pair v ++ children_pairs cs)));
    on = λ p q v n cs b r a w s h k. finds-up g k q (below (b ∷ r) (tree_pairs (child_of b cs))) _ (a (k ++ g q))
        (below-child q p r b v n cs w.2 s)
        (h (k ++ g q));
  }

  part-finds : (g : Grown) (k : SegmentList) (p : List ℕ) (o : Option (Trie V)) → IsCanonicalTree o
      → Finds g k (below p (tree_pairs o)) (tree_part g k p o)
  part-finds g k p o w = descends (finds g) (λ p o a. (k : SegmentList) → Finds g k (below p (tree_pairs o)) (a k))
      (finds-kept g) p o w k

  keys-found : (g : Grown) (es : List (List ℕ × V)) (e : Option (SegmentList × Trie V)) → Joins g → Finds g [] es e
      → join_all (part_entries g e) ≡ es
  keys-found g es None j h = sym h
  keys-found g es (Some e) j h = join-after e.0 (entries_of g e.1)
      ∙ ap (with_prefix (joined_bytes e.0)) (joined-entries g e.1 j) ∙ ap (λ z. with_prefix z (pairs_of e.1)) (h.1.1 j)
      ∙ sym h.1.0

  values-found : (g : Grown) (es : List (List ℕ × V)) (e : Option (SegmentList × Trie V)) → Finds g [] es e
      → entry_values (part_entries g e) ≡ values_of es
  values-found g es None h = ap values_of (sym h)
  values-found g es (Some e) h = values-after e.0 (entries_of g e.1) ∙ values-entries g e.1
      ∙ sym (ap values_of h.1.0 ∙ values-with_prefix h.0 (pairs_of e.1))

  -- the stops at and below the prefix p, by whole keys and by values
  pub part-keys : (g : Grown) (p : List ℕ) (o : Option (Trie V)) → Joins g → IsCanonicalTree o
      → join_all (part_entries g (tree_part g [] p o)) ≡ below p (tree_pairs o)
  part-keys g p o j w = keys-found g (below p (tree_pairs o)) (tree_part g [] p o) j (part-finds g [] p o w)

  pub part-values : (g : Grown) (p : List ℕ) (o : Option (Trie V)) → IsCanonicalTree o
      → entry_values (part_entries g (tree_part g [] p o)) ≡ values_of (below p (tree_pairs o))
  part-values g p o w = values-found g (below p (tree_pairs o)) (tree_part g [] p o) (part-finds g [] p o w)

  -- there are as many pairs below a prefix as below the node that is found
  pub part-length : (g : Grown) (k l : SegmentList) (p : List ℕ) (o : Option (Trie V)) (u : Trie V) → IsCanonicalTree o
      → tree_part g k p o ≡ Some (l, u) → length (below p (tree_pairs o)) ≡ length (pairs_of u)
  part-length g k l p o u w e = let h : Finds g k (below p (tree_pairs o)) (Some (l, u))
      = subst (Finds g k (below p (tree_pairs o))) e (part-finds g k p o w) in ap length h.1.0
      ∙ length-with_prefix h.0 (pairs_of u)

  -- and they are the pairs below that node, after the bytes of the path to it
  pub part-after : (p q : List ℕ) (o : Option (Trie V)) (u : Trie V) → IsCanonicalTree o
      → tree_part byte_segments [] p o ≡ Some (byte_segments q, u) → below p (tree_pairs o) ≡ with_prefix q (pairs_of u)
  part-after p q o u w e = let h : Finds byte_segments [] (below p (tree_pairs o)) (Some (byte_segments q, u))
      = subst (Finds byte_segments [] (below p (tree_pairs o))) e (part-finds byte_segments [] p o w) in
      h.1.0 ∙ ap (λ z. with_prefix z (pairs_of u)) (sym (h.1.1 joins-bytes) ∙ joins-bytes q)

  -- no node is found where no key begins with the prefix
  pub part-none : (g : Grown) (k : SegmentList) (p : List ℕ) (o : Option (Trie V)) → IsCanonicalTree o
      → tree_part g k p o ≡ None → below p (tree_pairs o) ≡ []
  part-none g k p o w e = subst (Finds g k (below p (tree_pairs o))) e (part-finds g k p o w)

  -- one step of the way: the prefix leaves the node's own, ends within it or after it, or continues
  pub part-out : (g : Grown) (k : SegmentList) (t : Trie V) (p : List ℕ) → None ≡ strip_prefix (prefix_of t) p
      → begins p (prefix_of t) ≡ false → None ≡ tree_part g k p (Some t)
  part-out g k t p e h = sym (ap (λ f. f k) (descend-left (finds g) t p e) ∙ rw h refl)

  pub part-within : (g : Grown) (k : SegmentList) (t : Trie V) (p : List ℕ) → None ≡ strip_prefix (prefix_of t) p
      → begins p (prefix_of t) ≡ true → Some (k, t) ≡ tree_part g k p (Some t)
  part-within g k t p e h = sym (ap (λ f. f k) (descend-left (finds g) t p e) ∙ rw h refl)

  pub part-on : (g : Grown) (k : SegmentList) (t : Trie V) (p r : List ℕ) (b : ℕ) → is_canonical t ≡ true
      → Some r ≡ strip_prefix (prefix_of t) p → Some b ≡ slice_get r 0
      → tree_part g (k ++ g (prefix_of t)) r (child_in b t) ≡ tree_part g k p (Some t)
  part-on g k t p r b c e h = sym (ap (λ f. f k) (descend-on (finds g) t p r b c e h))

  -- a child's keys are shorter by what leads to it
  pub child-deep : (t : Trie V) (b : ℕ) (o : Option (Trie V)) → is_canonical t ≡ true → child_in b t ≡ o
      → length (prefix_of t) + longest_key (tree_pairs o) ≤ longest_key (pairs_of t)
  child-deep (node q v n cs) b None c e = omega
      (arith, longest-below (node q v n cs) (IsCanonical-test (node q v n cs) c))
  child-deep (node q v n cs) b (Some u) c e
      = omega (arith, longest-below (node q v n cs) (IsCanonical-test (node q v n cs) c), longest-of b u cs e)

  mutual
    -- fewer nodes than twice the pairs
    pub few-count : (t : Trie V) → IsCanonical t → node_count t + 1 ≤ 2 * length (pairs_of t)
    few-count (node p v n cs) w = rw (
      length-with_prefix p (own_pair v ++ children_pairs cs),
      length-append (own_pair v)
          (children_pairs cs),
    )
        (⊎_elim (λ h. omega (arith, few-child_count 0 cs w.2, length-own_pair v h))
        (λ h. omega (arith, few-child_count 0 cs w.2, two-edges cs h)) w.0)

    few-child_count : (low : ℕ) (cs : Children V) → AreCanonical low cs
        → child_count cs + length (edges_of cs) ≤ 2 * length (children_pairs cs)
    few-child_count low no_children w = omega arith
    few-child_count low (child b t cs) w = rw (length-append (pairs_of t) (children_pairs cs))
        (omega (arith, few-count t w.2, few-child_count _ cs w.3))

module _ {V : Type 0} where
  -- the pairs that are counted and those of the next child are among those of the node
  pub counted-within : (t u : Trie V) (b n m : ℕ) (cs ds : Children V)
      → n + length (children_pairs cs) ≡ length (own_pair (value_of t) ++ children_pairs (children_in t))
      → cs ≡ child b u ds → length (pairs_of t) ≤ m → n + length (pairs_of u) ≤ m
  counted-within (node p v w es) u b n m cs ds h e l = omega (
    arith,
    h,
    l,
    length-with_prefix p (own_pair v ++ children_pairs es),
    ap (λ z. length (children_pairs z)) e ∙ length-append (pairs_of u) (children_pairs ds),
  )
