-- What a descent of a trie meets: its children are canonical and smaller, and their subtrees hold what it seeks.
use Rattle.std.proofs.Common.{◌≡◌, ℕ, suc, ◌+◌, ◌<◌, ◌≤◌, ◌⊎◌, inl, inr, ⊎_elim, Bool, true, false, cond, eqb, List}
use Rattle.std.proofs.Common.{◌++◌, length, Option, Some, None, option_map, refl, arith, sym}
use Rattle.std.specs.Prelude.{slice_get}
use Rattle.rart_keys.specs.ByteStrings.{strip_prefix}
use Rattle.rart_keys.specs.SortedMap.{keys_of, lookup, longest_key}
use Rattle.rart_trie.specs.tries.CanonicalTest.{is_canonical}
use Rattle.rart_trie.specs.walks.ProbeCount.{probe_count, counts, entered_nodes, tree_entered}
use Rattle.rart_trie.specs.tries.Tree.{tree_lookup, tree_pairs, IsCanonicalTree}
use Rattle.rart_trie.specs.tries.Trie.{Trie, node, Children, no_children, child, prefix_of, value_of, pairs_of}
use Rattle.rart_trie.specs.tries.Trie.{children_pairs, own_pair, IsCanonical, AreCanonical, looks_up, trie_lookup}
use Rattle.rart_trie.specs.tries.Trie.{child_of, child_in, children_in}
use Rattle.rart_trie.specs.tries.TrieCode.{node_count, child_count}
use Rattle.rart_trie.specs.walks.Walk.{tree_count}
use Rattle.rart_trie.proofs.tries.CanonicalTests.{IsCanonical-test, test-IsCanonical, longest_key-append}
use Rattle.rart_trie.proofs.tries.CanonicalTests.{longest_key-with_prefix, longest_key-after}
use Rattle.rart_trie.proofs.tries.Descents.{descend-left, descend-ended, descend-on}
use Rattle.rart_trie.proofs.tries.PairLemmas.{lookup-pairs_of}
use Rattle.rart_trie.proofs.tries.ProbeLemmas.{entered_nodes-probe_count, few-entered_nodes}
use Rattle.rart_trie.proofs.tries.NodeCounts.{some-after}

module _ {V : Type 0} where
  -- the child at a byte is the first one, or one of the others
  pub pick : (z : Bool) (t u : Trie V) (o : Option (Trie V)) → cond z (Some t) o ≡ Some u → (t ≡ u) ⊎ (o ≡ Some u)
  pick true t u o e = inl (cc)
  pick false t u o e = inr e

  canonical-of : (b low : ℕ) (t : Trie V) (cs : Children V) → AreCanonical low cs → child_of b cs ≡ Some t
      → IsCanonical t
  canonical-of b low t no_children w e = absurd (cc)
  canonical-of b low t (child c u cs) w e = ⊎_elim (λ q. rw (← q) w.2) (canonical-of b (suc c) t cs w.3)
      (pick (eqb c b) u t (child_of b cs) e)

  pub longest-of : (b : ℕ) (t : Trie V) (cs : Children V) → child_of b cs ≡ Some t
      → longest_key (pairs_of t) ≤ longest_key (children_pairs cs)
  longest-of b t no_children e = absurd (cc)
  longest-of b t (child c u cs) e = ⊎_elim
      (λ q. rw (← q) (omega (arith, longest_key-append (pairs_of u) (children_pairs cs))))
      (λ q. omega (arith, longest-of b t cs q, longest_key-append (pairs_of u) (children_pairs cs)))
      (pick (eqb c b) u t (child_of b cs) e)

  count-of : (b : ℕ) (t : Trie V) (cs : Children V) → child_of b cs ≡ Some t → node_count t ≤ child_count cs
  count-of b t no_children e = absurd (cc)
  count-of b t (child c u cs) e = ⊎_elim (λ q. rw (← q) (omega arith)) (λ q. omega (arith, count-of b t cs q))
      (pick (eqb c b) u t (child_of b cs) e)

  pub child-canonical : (b : ℕ) (t u : Trie V) → is_canonical t ≡ true → child_in b t ≡ Some u → is_canonical u ≡ true
  child-canonical b (node p v n cs) u w e = test-IsCanonical u
      (canonical-of b 0 u cs (IsCanonical-test (node p v n cs) w).2 e)

  pub child-short : (b n : ℕ) (t u : Trie V) → longest_key (pairs_of t) ≤ n → child_in b t ≡ Some u
      → longest_key (pairs_of u) ≤ n
  child-short b n (node p v m cs) u h e =
      omega (
        arith,
        longest-of b u cs e,
        longest_key-append (own_pair v) (children_pairs cs),
        longest_key-with_prefix p
            (own_pair v ++ children_pairs cs),
      )

  pub child-falls : (b : ℕ) (t : Trie V) (o : Option (Trie V)) → child_in b t ≡ o → tree_count o < node_count t
  child-falls b (node p v n cs) None e = omega arith
  child-falls b (node p v n cs) (Some u) e = omega (arith, count-of b u cs e)

  -- a descent continues to a child
  pub next-falls : {S : Type 0} (f : S → Trie V) (b : ℕ) (t : Trie V) (s : S) (next after : Option S) → next ≡ Some s
      → t ≡ f s → option_map f after ≡ child_in b t → tree_count (option_map f after) < tree_count (option_map f next)
  next-falls f b t s next after e i c = rw (e, ← i) (child-falls b t (option_map f after) (sym c))

  -- a descent to k at a node t: k leaves the prefix, ends after it, or continues by b
  pub step-left : (t : Trie V) (k : List ℕ) → None ≡ strip_prefix (prefix_of t) k → (trie_lookup k t ≡ None)
      × (entered_nodes k t ≡ 1)
  step-left t k e = (descend-left looks_up t k e, descend-left counts t k e)

  pub step-ended : (t : Trie V) (k r : List ℕ) → Some r ≡ strip_prefix (prefix_of t) k → None ≡ slice_get r 0
      → (trie_lookup k t ≡ value_of t) × (entered_nodes k t ≡ 1)
  step-ended t k r e h = (descend-ended looks_up t k r e h, descend-ended counts t k r e h)

  pub step-on : (t : Trie V) (k r : List ℕ) (b : ℕ) → is_canonical t ≡ true → Some r ≡ strip_prefix (prefix_of t) k
      → Some b ≡ slice_get r 0
      → (trie_lookup k t ≡ tree_lookup r (child_in b t)) × (entered_nodes k t ≡ 1 + tree_entered r (child_in b t))
  step-on t k r b c e h = (descend-on looks_up t k r b c e h, descend-on counts t k r b c e h)

  -- what a descent answers and enters, by the tree's pairs
  pub tree_lookup-lookup : (k : List ℕ) (o : Option (Trie V)) → IsCanonicalTree o
      → tree_lookup k o ≡ lookup k (tree_pairs o)
  tree_lookup-lookup k None w = refl
  tree_lookup-lookup k (Some t) w = sym (lookup-pairs_of k t w)

  pub tree_entered-probe_count : (k : List ℕ) (o : Option (Trie V)) → IsCanonicalTree o
      → tree_entered k o ≡ probe_count (keys_of (tree_pairs o)) k
  tree_entered-probe_count k None w = refl
  tree_entered-probe_count k (Some t) w = entered_nodes-probe_count k t w

  pub few-tree_entered : (k : List ℕ) (o : Option (Trie V)) → IsCanonicalTree o → tree_entered k o ≤ length k + 1
  few-tree_entered k None w = omega arith
  few-tree_entered k (Some t) w = few-entered_nodes k t w

  pub root-entered : (k : List ℕ) (t : Trie V) (o : Option (Trie V)) → is_canonical t ≡ true → Some t ≡ o
      → (entered_nodes k t ≡ probe_count (keys_of (tree_pairs o)) k) × (entered_nodes k t ≤ length k + 1)
  root-entered k t o c e = let w = IsCanonical-test t c in
      rw (← e) (entered_nodes-probe_count k t w, few-entered_nodes k t w)

  pub longest-below : (t : Trie V) → IsCanonical t → length (prefix_of t) + longest_key (children_pairs (children_in t))
      ≤ longest_key (pairs_of t)
  longest-below (node p v n cs) w = omega (
    arith,
    longest_key-after p (own_pair v ++ children_pairs cs) (some-after p v n cs w),
    longest_key-append (own_pair v) (children_pairs cs),
  )
