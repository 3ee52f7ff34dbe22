-- The test of canonical form says what the word says, and what a tree keeps of it below a child.
use Rattle.std.proofs.Common.{◌≡◌, ℕ, ◌≤◌, ◌+◌, ◌==◌, ◌&&◌, ◌||◌, ◌⊎◌, inl, inr, ⊎_elim, nat_le, suc, max, Bool, true}
use Rattle.std.proofs.Common.{false, List, [], ◌∷◌, ◌++◌, length, length-append, Option, Some, None, IsSome, is_some}
use Rattle.std.proofs.Common.{refl, arith, Less, Equal, Greater, ◌<◌}
use Rattle.std.specs.Cmp.Lexicographic.{slice_cmp}
use Rattle.std.specs.Ordering.{nat_cmp, match_ordering}
use Rattle.std.proofs.lemmas.Bool.Decides.{nat_tests}
use Rattle.rart_keys.specs.SortedMap.{put, longest_key}
use Rattle.rart_keys.proofs.strings.ByteOrder.{eq-yes}
use Rattle.rart_trie.specs.tries.CanonicalTest.{has_two_children, starts_with_byte, is_canonical, are_canonical}
use Rattle.rart_trie.specs.tries.CanonicalTest.{is_canonical_tree}
use Rattle.rart_trie.specs.shapes.Shape.{capacity_of}
use Rattle.rart_trie.specs.tries.Tree.{IsCanonicalTree}
use Rattle.rart_trie.specs.tries.Trie.{Trie, node, Children, no_children, child, edges_of, prefix_of, with_prefix}
use Rattle.rart_trie.specs.tries.Trie.{StartsWith, HasTwoChildren, IsCanonical, AreCanonical}

and-split : (a b : Bool) → (a && b) ≡ true → (a ≡ true) × (b ≡ true)
and-split true b h = (refl, h)
and-split false b h = absurd (cc)

and-join : (a b : Bool) → a ≡ true → b ≡ true → (a && b) ≡ true
and-join true b h k = k
and-join false b h k = absurd (cc)

eq-true : (b c : ℕ) → b == c ≡ true → b ≡ c
eq-true b c h = grind (arith, nat_tests)

le-true : (b c : ℕ) → nat_le b c ≡ true → b ≤ c
le-true b c h = grind (arith, nat_tests)

pub true-le : (b c : ℕ) → b ≤ c → nat_le b c ≡ true
true-le b c h = grind (arith, nat_tests)

StartsWith-test : (b : ℕ) (xs : List ℕ) → starts_with_byte b xs ≡ true → StartsWith b xs
StartsWith-test b [] h = absurd (cc)
StartsWith-test b (x ∷ xs) h = eq-true x b h

test-StartsWith : (b : ℕ) (xs : List ℕ) → StartsWith b xs → starts_with_byte b xs ≡ true
test-StartsWith b [] h = absurd h
test-StartsWith b (x ∷ xs) h = eq-yes x b h

module _ {V : Type 0} where
  needed-test : (v : Option V) (cs : Children V) → (is_some v || has_two_children cs) ≡ true
      → IsSome v ⊎ HasTwoChildren cs
  needed-test (Some v) cs h = inl refl
  needed-test None no_children h = absurd (cc)
  needed-test None (child b t no_children) h = absurd (cc)
  needed-test None (child b t (child c u cs)) h = inr tt

  test-needed : (v : Option V) (cs : Children V) → IsSome v ⊎ HasTwoChildren cs → (is_some v || has_two_children cs)
      ≡ true
  test-needed (Some v) cs h = refl
  test-needed None no_children h = ⊎_elim (λ k. absurd (cc)) (λ k. absurd k) h
  test-needed None (child b t no_children) h = ⊎_elim (λ k. absurd (cc)) (λ k. absurd k) h
  test-needed None (child b t (child c u cs)) h = refl

  mutual
    pub IsCanonical-test : (t : Trie V) → is_canonical t ≡ true → IsCanonical t
    IsCanonical-test (node p v c cs) h =
        let a = and-split (is_some v || has_two_children cs)
        ((c == capacity_of (length (edges_of cs))) && are_canonical 0 cs) h in
        let b = and-split (c == capacity_of (length (edges_of cs))) (are_canonical 0 cs) a.1 in
        (needed-test v cs a.0, eq-true c (capacity_of (length (edges_of cs))) b.0, AreCanonical-test 0 cs b.1)

    AreCanonical-test : (low : ℕ) (cs : Children V) → are_canonical low cs ≡ true → AreCanonical low cs
    AreCanonical-test low no_children h = tt
    AreCanonical-test low (child b t cs) h =
        let a = and-split (nat_le low b && starts_with_byte b (prefix_of t))
        (is_canonical t && are_canonical (suc b) cs) h in
        let l = and-split (nat_le low b) (starts_with_byte b (prefix_of t)) a.0 in
        let r = and-split (is_canonical t) (are_canonical (suc b) cs) a.1 in (
          le-true low b l.0,
          StartsWith-test b (prefix_of t) l.1,
          IsCanonical-test t r.0,
          AreCanonical-test (suc b) cs
              r.1,
        )

  mutual
    pub test-IsCanonical : (t : Trie V) → IsCanonical t → is_canonical t ≡ true
    test-IsCanonical (node p v c cs) w =
        and-join (is_some v || has_two_children cs) ((c == capacity_of (length (edges_of cs))) && are_canonical 0 cs)
        (test-needed v cs w.0)
        (and-join (c == capacity_of (length (edges_of cs))) (are_canonical 0 cs)
        (eq-yes c (capacity_of (length (edges_of cs))) w.1) (test-AreCanonical 0 cs w.2))

    test-AreCanonical : (low : ℕ) (cs : Children V) → AreCanonical low cs → are_canonical low cs ≡ true
    test-AreCanonical low no_children w = refl
    test-AreCanonical low (child b t cs) w =
        and-join (nat_le low b && starts_with_byte b (prefix_of t)) (is_canonical t && are_canonical (suc b) cs)
        (and-join (nat_le low b) (starts_with_byte b (prefix_of t)) (true-le low b w.0)
        (test-StartsWith b (prefix_of t) w.1))
        (and-join (is_canonical t) (are_canonical (suc b) cs) (test-IsCanonical t w.2)
        (test-AreCanonical (suc b) cs w.3))

  pub IsCanonicalTree-test : (o : Option (Trie V)) → is_canonical_tree o ≡ true → IsCanonicalTree o
  IsCanonicalTree-test None h = tt
  IsCanonicalTree-test (Some t) h = IsCanonical-test t h

  pub test-IsCanonicalTree : (o : Option (Trie V)) → IsCanonicalTree o → is_canonical_tree o ≡ true
  test-IsCanonicalTree None w = refl
  test-IsCanonicalTree (Some t) w = test-IsCanonical t w

  -- children in order from a byte on are so from a lower one
  pub canonical-lower : (low high : ℕ) (cs : Children V) → low ≤ high → AreCanonical high cs → AreCanonical low cs
  canonical-lower low high no_children l w = tt
  canonical-lower low high (child b t cs) l w = (omega (arith, w.0), w.1, w.2, w.3)

  -- the longest key
  pub longest_key-append : (xs ys : List (List ℕ × V)) → longest_key (xs ++ ys) ≡ max (longest_key xs) (longest_key ys)
  longest_key-append [] ys = omega arith
  longest_key-append (x ∷ xs) ys = omega (arith, longest_key-append xs ys)

  pub longest_key-after : (p : List ℕ) (es : List (List ℕ × V)) → 0 < length es
      → longest_key (with_prefix p es) ≡ length p + longest_key es
  longest_key-after p [] h = absurd (omega arith)
  longest_key-after p (e ∷ []) h = omega (arith, length-append p e.0)
  longest_key-after p (e ∷ d ∷ es) h = omega (arith, length-append p e.0, longest_key-after p (d ∷ es) (omega arith))

  pub longest_key-with_prefix : (p : List ℕ) (es : List (List ℕ × V)) → longest_key es ≤ longest_key (with_prefix p es)
  longest_key-with_prefix p [] = omega arith
  longest_key-with_prefix p (e ∷ es) = omega (arith, longest_key-with_prefix p es, length-append p e.0)

  pub longest_key-put : (k : List ℕ) (v : V) (n : ℕ) (es : List (List ℕ × V)) → longest_key es ≤ n → length k ≤ n
      → longest_key (put k v es) ≤ n
  longest_key-put k v n [] h l = omega arith
  longest_key-put k v n (e ∷ es) h l = elim (slice_cmp nat_cmp k e.0)
      as (λ o. longest_key (match_ordering o ((k, v) ∷ e ∷ es) ((k, v) ∷ es) (e ∷ put k v es)) ≤ n) [
        | Less ↦ omega arith
        | Equal ↦ omega arith
        | Greater ↦ omega (arith, longest_key-put k v n es (omega arith) l)
      ]
