-- The prefix of a node is the longest string with which its keys begin.
use Rattle.std.proofs.Common.{◌≡◌, ℕ, ◌+◌, ◌<◌, ◌≤◌, ⊎_elim, length, length-append, arith, List, [], ◌∷◌, ◌++◌}
use Rattle.std.proofs.Common.{true, refl, ap, Some, None}
use Rattle.rart_keys.specs.ByteStrings.{begins}
use Rattle.rart_keys.specs.Filters.{below}
use Rattle.rart_keys.specs.SortedMap.{keys_of, longest_key}
use Rattle.rart_keys.proofs.strings.ByteOrder.{eq-yes, eq-no, equal_or_not}
use Rattle.rart_trie.specs.tries.CanonicalTest.{is_canonical}
use Rattle.rart_trie.specs.tries.PrefixLaws.{prefix-append, prefix-twice}
use Rattle.rart_trie.specs.tries.Trie.{Trie, node, no_children, child, children_pairs, own_pair, pairs_of, prefix_of}
use Rattle.rart_trie.specs.tries.Trie.{with_prefix, IsCanonical, StartsWith}
use Rattle.rart_trie.proofs.removals.PrefixFilters.{longest_key-filter}
use Rattle.rart_trie.proofs.tries.CanonicalTests.{IsCanonical-test, longest_key-after}
use Rattle.rart_trie.proofs.tries.FirstBytes.{AllFirst, pairs_of-first}
use Rattle.rart_trie.proofs.tries.NodeCounts.{some-pairs}
use Rattle.rart_nodes.proofs.walks.PathLemmas.{prefix-short}
use Rattle.rart_nodes.specs.walks.CommonPrefixes.{BeginsEach, IsCommonPrefix}

begins-own : (p k : List ℕ) → begins p (p ++ k) ≡ true
begins-own [] k = refl
begins-own (x ∷ p) k = rw (eq-yes x x refl) (begins-own p k)

begins-short : (q k : List ℕ) → begins q k ≡ true → length q ≤ length k
begins-short [] k h = omega arith
begins-short (x ∷ q) [] h = absurd (cc)
begins-short (x ∷ q) (y ∷ k) h = ⊎_elim (λ e. omega (arith, begins-short q k (rw (eq-yes x y e) at h)))
    (λ n. absurd (let t = rw (eq-no x y n) at h in cc)) (equal_or_not x y)

-- what begins two strings that go two ways after p is no longer than p
fork : (p q k l : List ℕ) (b c : ℕ) → b < c → StartsWith b k → StartsWith c l → begins q (p ++ k) ≡ true
    → begins q (p ++ l) ≡ true → length q ≤ length p
fork p [] k l b c n s t f g = omega arith
fork [] (x ∷ q) [] l b c n s t f g = absurd s
fork [] (x ∷ q) (y ∷ k) [] b c n s t f g = absurd t
fork [] (x ∷ q) (y ∷ k) (z ∷ l) b c n s t f g = ⊎_elim
    (λ e. ⊎_elim (λ h. omega (arith, n, s, t, e, h)) (λ m. absurd (let u = rw (eq-no x z m) at g in cc))
    (equal_or_not x z))
    (λ m. absurd (let u = rw (eq-no x y m) at f in cc)) (equal_or_not x y)
fork (w ∷ p) (x ∷ q) k l b c n s t f g = ⊎_elim
    (λ e. omega (arith, fork p q k l b c n s t (rw (eq-yes x w e) at f) (rw (eq-yes x w e) at g)))
    (λ m. absurd (let u = rw (eq-no x w m) at f in cc)) (equal_or_not x w)

module _ {V : Type 0} where
  each-own : (p : List ℕ) (es : List (List ℕ × V)) → BeginsEach p (keys_of (with_prefix p es))
  each-own p [] = tt
  each-own p (e ∷ es) = (begins-own p e.0, each-own p es)

  each-front : (q : List ℕ) (xs ys : List (List ℕ × V)) → BeginsEach q (keys_of (xs ++ ys)) → BeginsEach q (keys_of xs)
  each-front q [] ys h = tt
  each-front q (x ∷ xs) ys h = (h.0, each-front q xs ys h.1)

  each-back : (q : List ℕ) (xs ys : List (List ℕ × V)) → BeginsEach q (keys_of (xs ++ ys)) → BeginsEach q (keys_of ys)
  each-back q [] ys h = h
  each-back q (x ∷ xs) ys h = each-back q xs ys h.1

  two-ways : (p q : List ℕ) (es fs : List (List ℕ × V)) (b c : ℕ) → b < c → AllFirst b es → AllFirst c fs
      → 0 < length es → 0 < length fs → BeginsEach q (keys_of (with_prefix p es))
      → BeginsEach q (keys_of (with_prefix p fs)) → length q ≤ length p
  two-ways p q [] fs b c n s t l m g h = omega (arith, l)
  two-ways p q (e ∷ es) [] b c n s t l m g h = omega (arith, m)
  two-ways p q (e ∷ es) (f ∷ fs) b c n s t l m g h = fork p q e.0 f.0 b c n s.0 t.0 g.0 h.0

  longest-root : (t : Trie V) → IsCanonical t → (q : List ℕ) → BeginsEach q (keys_of (pairs_of t))
      → length q ≤ length (prefix_of t)
  longest-root (node p (Some v) n cs) w q h = omega (arith, begins-short q (p ++ []) h.0, length-append p [])
  longest-root (node p None n no_children) w q h = ⊎_elim (λ s. absurd (let e = s in cc)) (λ s. absurd s) w.0
  longest-root (node p None n (child b t no_children)) w q h
      = ⊎_elim (λ s. absurd (let e = s in cc)) (λ s. absurd s) w.0
  longest-root (node p None n (child b t (child c u cs))) w q h =
      let both = rw (
        prefix-append p (pairs_of t) (pairs_of u ++ children_pairs cs),
        prefix-append p (pairs_of u) (children_pairs cs),
      ) at h in
      two-ways p q (pairs_of t) (pairs_of u) b c (omega (arith, w.2.3.0)) (pairs_of-first b t w.2.1)
      (pairs_of-first c u w.2.3.1) (some-pairs t w.2.2) (some-pairs u w.2.3.2)
      (each-front q (with_prefix p (pairs_of t)) _ both)
      (each-front q (with_prefix p (pairs_of u)) _ (each-back q (with_prefix p (pairs_of t)) _ both))

  common-root : (t : Trie V) → IsCanonical t → IsCommonPrefix (prefix_of t) (keys_of (pairs_of t))
  common-root (node p v n cs) w = record {
    begins_each = each-own p (own_pair v ++ children_pairs cs);
    longest = longest-root (node p v n cs) w;
  }

  -- `common-root` for a node whose keys follow a string
  pub common-part : (q : List ℕ) (u : Trie V) → IsCanonical u
      → IsCommonPrefix (q ++ prefix_of u) (keys_of (with_prefix q (pairs_of u)))
  common-part q (node p v n cs) w = rw (prefix-twice q p (own_pair v ++ children_pairs cs))
      (common-root (node (q ++ p) v n cs) w)

  -- that string is no longer than the longest key
  pub part-fits : (p q : List ℕ) (es : List (List ℕ × V)) (u : Trie V) → is_canonical u ≡ true
      → below p es ≡ with_prefix q (pairs_of u) → length q + length (prefix_of u) ≤ longest_key es
  part-fits p q es u w e = omega (
    arith,
    longest_key-filter (λ x. begins p x.0) es,
    ap longest_key e,
    longest_key-after q (pairs_of u) (some-pairs u (IsCanonical-test u w)),
    prefix-short u w,
  )
