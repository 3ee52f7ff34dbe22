-- Statistics of a canonical trie are those of its keys by their shape.
use Rattle.std.proofs.Common.{◌≡◌, ℕ, ◌+◌, ◌<◌, ◌≤◌, ⊎_elim, suc, List, [], ◌∷◌, ◌++◌, length, refl, sym, ap, ◌∙◌}
use Rattle.std.proofs.Common.{arith, Option, Some, None, is_some, length-append}
use Rattle.std.specs.Prelude.{max}
use Rattle.rart_keys.specs.SortedMap.{keys_of}
use Rattle.rart_trie.specs.shapes.Shape.{NodeRecord, record_at}
use Rattle.rart_trie.specs.tries.PrefixLaws.{prefix-none}
use Rattle.rart_trie.specs.tries.Trie.{Trie, node, Children, no_children, child, trie_lookup, child_lookup, pairs_of}
use Rattle.rart_trie.specs.tries.Trie.{children_pairs, edges_of, own_pair, with_prefix, nodes_of, with_records}
use Rattle.rart_trie.specs.tries.Trie.{children_with_records, HasTwoChildren, IsCanonical, AreCanonical}
use Rattle.rart_trie.specs.stats.Stats.{sum_over, one_if_some, records_along, most_along, height, stats_of}
use Rattle.rart_trie.specs.stats.Stats.{sum_in, sum_in_children, trie_height, children_height, trie_stats}
use Rattle.rart_keys.proofs.strings.ByteOrder.{is_equal, is_greater, eq-yes}
use Rattle.rart_trie.proofs.tries.FirstBytes.{AllFirst, AllFrom, pairs_of-first, children_pairs-from}
use Rattle.rart_trie.proofs.tries.LongerPrefix.{longer, trie_lookup-longer}
use Rattle.rart_trie.proofs.tries.NodeCounts.{some-pairs}
use Rattle.rart_trie.proofs.tries.PairLemmas.{trie_lookup-nil}
use Rattle.rart_trie.proofs.shapes.ShapeLemmas.{record_is, prefix-with_records, equal_nodes}

-- sums
sum-append : (m : NodeRecord → ℕ) (xs ys : List (List ℕ × NodeRecord))
    → sum_over m (xs ++ ys) ≡ sum_over m xs + sum_over m ys
sum-append m [] ys = omega arith
sum-append m (x ∷ xs) ys = omega (arith, sum-append m xs ys)

sum-with_prefix : (m : NodeRecord → ℕ) (p : List ℕ) (xs : List (List ℕ × NodeRecord))
    → sum_over m (with_prefix p xs) ≡ sum_over m xs
sum-with_prefix m p [] = refl
sum-with_prefix m p (x ∷ xs) = ap (λ n. m x.1 + n) (sum-with_prefix m p xs)

mutual
  sum-nodes_of : {V : Type 0} (m : NodeRecord → ℕ) (t : Trie V) → sum_in m t ≡ sum_over m (nodes_of t)
  sum-nodes_of m (node p v n cs) = ap (λ z. m (record { holds_value = is_some v; edges = edges_of cs; capacity = n })
      + z) (sum-children m cs) ∙ sym (sum-with_prefix m p
      (([], record { holds_value = is_some v; edges = edges_of cs; capacity = n })
      ∷ children_pairs (children_with_records cs)))

  sum-children : {V : Type 0} (m : NodeRecord → ℕ) (cs : Children V)
      → sum_in_children m cs ≡ sum_over m (children_pairs (children_with_records cs))
  sum-children m no_children = refl
  sum-children m (child b t cs) = omega (
    arith,
    sum-nodes_of m t,
    sum-children m cs,
    sum-append m (nodes_of t)
        (children_pairs (children_with_records cs)),
  )

-- heights
same-along : (f g : List ℕ → Option NodeRecord) (q : List ℕ) → ((p : List ℕ) → f p ≡ g p)
    → records_along f q ≡ records_along g q
same-along f g [] h = ap one_if_some (h [])
same-along f g (b ∷ q) h = rw (h [], same-along (λ p. f (b ∷ p)) (λ p. g (b ∷ p)) q (λ p. h (b ∷ p))) refl

same-most : (f g : List ℕ → Option NodeRecord) (s : List (List ℕ)) → ((p : List ℕ) → f p ≡ g p)
    → most_along f s ≡ most_along g s
same-most f g [] h = refl
same-most f g (k ∷ s) h = rw (same-along f g k h, same-most f g s h) refl

-- the record of a string, in children
abbrev record_below : Children NodeRecord → List ℕ → Option NodeRecord
record_below cs [] = None
record_below cs (b ∷ z) = child_lookup b (b ∷ z) cs

module _ {V : Type 0} where
  abbrev most : (List ℕ → Option NodeRecord) → List (List ℕ × V) → ℕ
  most f es = most_along f (keys_of es)

  most-append : (f : List ℕ → Option NodeRecord) (xs ys : List (List ℕ × V))
      → most f (xs ++ ys) ≡ max (most f xs) (most f ys)
  most-append f [] ys = omega arith
  most-append f (x ∷ xs) ys = omega (arith, most-append f xs ys)

  most-with_prefix : (f : List ℕ → Option NodeRecord) (x : ℕ) (p : List ℕ) (es : List (List ℕ × V)) → f [] ≡ None
      → most f (with_prefix (x ∷ p) es) ≡ most (λ z. f (x ∷ z)) (with_prefix p es)
  most-with_prefix f x p [] h = refl
  most-with_prefix f x p (e ∷ es) h = rw (h, most-with_prefix f x p es h) (omega arith)

  most-first : (f g : List ℕ → Option NodeRecord) (c : ℕ) (es : List (List ℕ × V)) → AllFirst c es → f [] ≡ g []
      → ((x : ℕ) (z : List ℕ) → x ≡ c → f (x ∷ z) ≡ g (x ∷ z)) → most f es ≡ most g es
  most-first f g c [] a h i = refl
  most-first f g c (([], v) ∷ es) a h i = absurd a.0
  most-first f g c ((x ∷ k, v) ∷ es) a h i
      = rw (h, same-along (λ z. f (x ∷ z)) (λ z. g (x ∷ z)) k (λ z. i x z a.0), most-first f g c es a.1 h i) refl

  most-from : (f g : List ℕ → Option NodeRecord) (low : ℕ) (es : List (List ℕ × V)) → AllFrom low es → f [] ≡ g []
      → ((x : ℕ) (z : List ℕ) → low ≤ x → f (x ∷ z) ≡ g (x ∷ z)) → most f es ≡ most g es
  most-from f g low [] a h i = refl
  most-from f g low (([], v) ∷ es) a h i = absurd a.0
  most-from f g low ((x ∷ k, v) ∷ es) a h i
      = rw (h, same-along (λ z. f (x ∷ z)) (λ z. g (x ∷ z)) k (λ z. i x z a.0), most-from f g low es a.1 h i) refl

  -- one more record, at the empty string
  most-top : (f g : List ℕ → Option NodeRecord) (r : NodeRecord) (es : List (List ℕ × V)) → AllFrom 0 es → f [] ≡ Some r
      → g [] ≡ None → ((x : ℕ) (z : List ℕ) → f (x ∷ z) ≡ g (x ∷ z)) → 0 < length es → most f es ≡ 1 + most g es
  most-top f g r [] a h i j l = absurd (omega arith)
  most-top f g r (([], v) ∷ es) a h i j l = absurd a.0
  most-top f g r ((x ∷ k, v) ∷ []) a h i j l
      = rw (h, i, same-along (λ z. f (x ∷ z)) (λ z. g (x ∷ z)) k (j x)) (omega arith)
  most-top f g r ((x ∷ k, v) ∷ e ∷ es) a h i j l
      = rw (most-top f g r (e ∷ es) a.1 h i j (omega arith), h, i, same-along (λ z. f (x ∷ z)) (λ z. g (x ∷ z)) k (j x))
      (omega arith)

  some-children_pairs : (low : ℕ) (cs : Children V) → HasTwoChildren cs → AreCanonical low cs
      → 0 < length (children_pairs cs)
  some-children_pairs low no_children h w = absurd h
  some-children_pairs low (child b t cs) h w = simp length-append (omega (arith, some-pairs t w.2))

  abbrev own_record : Option V → Children V → ℕ → NodeRecord
  own_record v cs n = record { holds_value = is_some v; edges = edges_of cs; capacity = n }

  most-node : (p : List ℕ) (v : Option V) (n : ℕ) (cs : Children V) → IsCanonical (node p v n cs)
      → most (λ z. record_below (children_with_records cs) z) (children_pairs cs) ≡ children_height cs →
      most (λ z. trie_lookup z (with_records (node p v n cs))) (pairs_of (node p v n cs)) ≡ 1 + children_height cs
  most-node [] (Some v) n no_children w ih = omega arith
  most-node [] (Some v) n (child b t cs) w ih
      = rw (
        prefix-none (children_pairs (child b t cs)),
        most-top
            (λ z. trie_lookup z (with_records (node [] (Some v) n (child b t cs))))
            (λ z. record_below (children_with_records (child b t cs)) z) (own_record (Some v) (child b t cs) n)
            (children_pairs (child b t cs)) (children_pairs-from 0 (child b t cs) w.2) refl refl (λ x z. refl)
            (simp length-append (omega (arith, some-pairs t w.2.2))),
      ) (omega (arith, ih))
  most-node [] None n cs w ih = rw (
    prefix-none (children_pairs cs),
    most-top
        (λ z. trie_lookup z (with_records (node [] None n cs))) (λ z. record_below (children_with_records cs) z)
        (own_record None cs n) (children_pairs cs) (children_pairs-from 0 cs w.2) refl refl (λ x z. refl)
        (⊎_elim (λ h. cc) (λ h. some-children_pairs 0 cs h w.2) w.0),
  ) (omega (arith, ih))
  most-node (x ∷ p) v n cs w ih = most-with_prefix (λ z. trie_lookup z (with_records (node (x ∷ p) v n cs))) x p
      (own_pair v ++ children_pairs cs) refl ∙
      same-most (λ z. trie_lookup (x ∷ z) (longer x (with_records (node p v n cs))))
      (λ z. trie_lookup z (with_records (node p v n cs)))
      (keys_of (with_prefix p (own_pair v ++ children_pairs cs)))
      (λ z. trie_lookup-longer x x z (with_records (node p v n cs)) ∙ rw (eq-yes x x refl) refl)
      ∙ most-node p v n cs w ih

  mutual
    most-height : (t : Trie V) → IsCanonical t → most (λ z. trie_lookup z (with_records t)) (pairs_of t) ≡ trie_height t
    most-height (node p v n cs) w = most-node p v n cs w (most-children 0 cs w.2)

    most-children : (low : ℕ) (cs : Children V) → AreCanonical low cs
        → most (λ z. record_below (children_with_records cs) z) (children_pairs cs) ≡ children_height cs
    most-children low no_children w = refl
    most-children low (child c t cs) w = most-append (λ z. record_below (children_with_records (child c t cs)) z)
        (pairs_of t) (children_pairs cs) ∙
        rw (
          most-first (λ z. record_below (children_with_records (child c t cs)) z) (λ z. trie_lookup z (with_records t))
              c (pairs_of t) (pairs_of-first c t w.1) (sym
              (trie_lookup-nil c (with_records t) (rw (prefix-with_records t) w.1)))
              (λ x z e. rw (is_equal x c e) refl),
          most-from (λ z. record_below (children_with_records (child c t cs)) z)
              (λ z. record_below (children_with_records cs) z) (suc c) (children_pairs cs)
              (children_pairs-from (suc c) cs w.3) refl (λ x z e. rw (is_greater x c (omega arith)) refl),
          most-height t w.2,
          most-children (suc c) cs w.3,
        ) refl

  pub height-keys : (t : Trie V) → IsCanonical t → trie_height t ≡ height (keys_of (pairs_of t))
  height-keys t w = sym (most-height t w) ∙ same-most (λ z. trie_lookup z (with_records t))
      (record_at (keys_of (pairs_of t))) (keys_of (pairs_of t)) (λ z. record_is z t w)

  pub statistics-keys : (t : Trie V) → IsCanonical t → trie_stats t ≡ stats_of (keys_of (pairs_of t)) (nodes_of t)
  statistics-keys t w = rw (height-keys t w) (simp (sum-nodes_of) refl)

-- whatever the values
pub equal-statistics : {V W : Type 0} (t : Trie V) (u : Trie W) → IsCanonical t → IsCanonical u
    → keys_of (pairs_of t) ≡ keys_of (pairs_of u) → trie_stats t ≡ trie_stats u
equal-statistics t u w z e = statistics-keys t w ∙ rw (e, equal_nodes t u w z e) refl ∙ sym (statistics-keys u z)
