-- The intersection of two tries gives the join of their pairs.
use Rattle.std.specs.Ordering.{nat_cmp, match_ordering}
use Rattle.std.proofs.Common.{◌≡◌, ℕ, Less, Equal, Greater, ◌==◌, ⊎_elim, suc, true, false, List, [], ◌∷◌, refl, sym}
use Rattle.std.proofs.Common.{◌∙◌, arith, Option, Some, None, if◌then◌else◌}
use Rattle.rart_keys.specs.ByteStrings.{bytes_eq}
use Rattle.rart_keys.specs.SortedMap.{IsAscending, lookup}
use Rattle.rart_trie.specs.tries.Trie.{Trie, node, Children, no_children, child, trie_lookup, child_lookup, pairs_of}
use Rattle.rart_trie.specs.tries.Trie.{with_prefix, prefix_of, StartsWith, IsCanonical, AreCanonical}
use Rattle.rart_keys.specs.Joins.{both, join}
use Rattle.rart_keys.proofs.maps.JoinsOfMaps.{both-none, join-ascends, lookup-join}
use Rattle.rart_nodes.specs.joins.Intersections.{intersect_each, intersect_in, intersect_down, intersect_nodes}
use Rattle.rart_nodes.specs.joins.Intersections.{intersect_child}
use Rattle.rart_keys.proofs.strings.ByteOrder.{order, is_less, is_equal, is_greater, eq-yes, eq-no, equal_or_not}
use Rattle.rart_keys.proofs.maps.SortedMaps.{equal_by_lookups}
use Rattle.rart_trie.proofs.tries.FirstBytes.{AllFirst, AllFrom, ascending-append, ascending-with_prefix}
use Rattle.rart_trie.proofs.tries.FirstBytes.{all_from-first, all_first-looks}
use Rattle.rart_trie.proofs.tries.PairLemmas.{or_none, lookup-append, lookup-pairs_of, pairs_of-ascend, lookup-nil}
use Rattle.rart_trie.proofs.tries.PairLemmas.{lookup-own_pair, trie_lookup-other, trie_lookup-nil, child_lookup-low}
use Rattle.rart_trie.proofs.tries.PairLemmas.{ascending-own_pair}
use Rattle.rart_trie.proofs.tries.LongerPrefix.{trie_lookup-longer}

pub lookup-step : {X : Type 0} (x y : ℕ) (k : List ℕ) (es : List (List ℕ × X))
    → lookup (y ∷ k) (with_prefix (x ∷ []) es) ≡ (if x == y then lookup k es else None)
lookup-step {X} x y k [] = elim (x == y) as (λ b. ◌≡◌ {A = Option X} None (if b then None else None)) [
  | true ↦ refl
  | false ↦ refl
]
lookup-step x y k (e ∷ es) = rw (lookup-step x y k es)
    (elim (x == y) as (λ b. (if (if b then bytes_eq e.0 k else false) then Some e.1
    else (if b then lookup k es else None)) ≡ (if b then (if bytes_eq e.0 k then Some e.1 else lookup k es)
    else None)) [ true ↦ refl | false ↦ refl ])

pub lookup-step_nil : {X : Type 0} (x : ℕ) (es : List (List ℕ × X)) → lookup [] (with_prefix (x ∷ []) es) ≡ None
lookup-step_nil x [] = refl
lookup-step_nil x (e ∷ es) = lookup-step_nil x es

module _ {V W : Type 0} where
  -- the children of a left node with children cs, met by f
  abbrev Shares : (ℕ → Trie W → List (List ℕ × (V × W))) → Children V → Type 0
  Shares f cs = (b : ℕ) (k : List ℕ) (u : Trie W) → IsCanonical u
      → lookup k (f b u) ≡ both (child_lookup b k cs) (trie_lookup k u)

  each-nil : (f : ℕ → Trie W → List (List ℕ × (V × W))) (cs : Children V) (low : ℕ) (ds : Children W) → Shares f cs
      → AreCanonical low ds → lookup [] (intersect_each f ds) ≡ None
  each-nil f cs low no_children h w = refl
  each-nil f cs low (child c u ds) h w = lookup-append [] (f c u) (intersect_each f ds)
      ∙ rw (h c [] u w.2, trie_lookup-nil c u w.1, both-none (child_lookup c [] cs)) (each-nil f cs (suc c) ds h w.3)

  each-shares : (y : ℕ) (r : List ℕ) (f : ℕ → Trie W → List (List ℕ × (V × W))) (cs : Children V) (low : ℕ)
      (ds : Children W) → Shares f cs → AreCanonical low ds →
      lookup (y ∷ r) (intersect_each f ds) ≡ both (child_lookup y (y ∷ r) cs) (child_lookup y (y ∷ r) ds)
  each-shares y r f cs low no_children h w = sym (both-none (child_lookup y (y ∷ r) cs))
  each-shares y r f cs low (child c u ds) h w = lookup-append (y ∷ r) (f c u) (intersect_each f ds)
      ∙ rw (h c (y ∷ r) u w.2, each-shares y r f cs (suc c) ds h w.3)
      (⊎_elim (λ l. rw (
        is_less y c l,
        trie_lookup-other y c r u w.1 (λ e. omega arith),
        child_lookup-low y (suc c)
            (y ∷ r) ds (omega arith) w.3,
        both-none (child_lookup c (y ∷ r) cs),
        both-none (child_lookup y (y ∷ r) cs),
      )
      refl)
      (⊎_elim (λ e. rw (
        is_equal y c e,
        child_lookup-low y (suc c) (y ∷ r) ds (omega arith) w.3,
        both-none
            (child_lookup y (y ∷ r) cs),
        ← e,
      ) (or_none (both (child_lookup y (y ∷ r) cs) (trie_lookup (y ∷ r) u))))
      (λ g. rw (
        is_greater y c g,
        trie_lookup-other y c r u w.1 (λ e. omega arith),
        both-none
            (child_lookup c (y ∷ r) cs),
      ) refl)) (order y c))

  shares-node : (k p q : List ℕ) (v : Option V) (n : ℕ) (cs : Children V) (f : ℕ → Trie W → List (List ℕ × (V × W)))
      (w : Option W) (m : ℕ) (ds : Children W) → Shares f cs → IsCanonical (node q w m ds) →
      ((b : ℕ) (l k : List ℕ) → lookup k (intersect_down b l v f ds)
      ≡ both (trie_lookup k (node l v n cs)) (child_lookup b k ds)) →
      lookup k (intersect_in p v f (node q w m ds))
      ≡ both (trie_lookup k (node p v n cs)) (trie_lookup k (node q w m ds))
  shares-node [] [] [] v n cs f w m ds h z g = lookup-nil (both v w) (intersect_each f ds) (each-nil f cs 0 ds h z.2)
  shares-node (y ∷ k) [] [] v n cs f w m ds h z g = lookup-own_pair y k (both v w) (intersect_each f ds)
      ∙ each-shares y k f cs 0 ds h z.2
  shares-node [] [] (y ∷ q) v n cs f w m ds h z g = h y [] (node (y ∷ q) w m ds) z ∙ both-none (child_lookup y [] cs)
      ∙ sym (both-none v)
  shares-node (x ∷ k) [] (y ∷ q) v n cs f w m ds h z g = h y (x ∷ k) (node (y ∷ q) w m ds) z
      ∙ rw (trie_lookup-longer y x k (node q w m ds)) (⊎_elim
      (λ e. rw e refl)
      (λ d. rw (eq-no y x d, both-none (child_lookup x (x ∷ k) cs)) (both-none (child_lookup y (x ∷ k) cs)))
      (equal_or_not y x))
  shares-node [] (x ∷ p) [] v n cs f w m ds h z g = g x (x ∷ p) []
  shares-node (y ∷ k) (x ∷ p) [] v n cs f w m ds h z g = g x (x ∷ p) (y ∷ k)
      ∙ rw (trie_lookup-longer x y k (node p v n cs)) (⊎_elim
      (λ e. rw e refl)
      (λ d. rw (eq-no x y d) refl) (equal_or_not x y))
  shares-node [] (x ∷ p) (y ∷ q) v n cs f w m ds h z g
      = elim (x == y) as (λ b. lookup [] (if b then with_prefix (x ∷ []) (intersect_in p v f (node q w m ds)) else [])
      ≡ None) [ true ↦ lookup-step_nil x (intersect_in p v f (node q w m ds)) | false ↦ refl ]
  shares-node (i ∷ k) (x ∷ p) (y ∷ q) v n cs f w m ds h z g
      = rw (trie_lookup-longer x i k (node p v n cs), trie_lookup-longer y i k (node q w m ds)) (⊎_elim
      (λ e. rw (
        ← e,
        eq-yes x x refl,
        lookup-step x i k (intersect_in p v f (node q w m ds)),
        shares-node k p q v n cs f
            w m ds h z g,
      )
      (elim (x == i) as (λ b. (if b then both (trie_lookup k (node p v n cs)) (trie_lookup k (node q w m ds)) else None)
      ≡ both (if b then trie_lookup k (node p v n cs) else None) (if b then trie_lookup k (node q w m ds)
      else None)) [ true ↦ refl | false ↦ refl ]))
      (λ d. rw (eq-no x y d) (⊎_elim
      (λ e. rw (eq-no y i (λ j. d (e ∙ sym j)))
      (sym (both-none (if x == i then trie_lookup k (node p v n cs) else None)))) (λ j. rw (eq-no x i j) refl)
      (equal_or_not x i))) (equal_or_not x y))

  mutual
    meets-in : (k p : List ℕ) (v : Option V) (n : ℕ) (cs : Children V) (f : ℕ → Trie W → List (List ℕ × (V × W)))
        (u : Trie W) → Shares f cs → IsCanonical u →
        lookup k (intersect_in p v f u) ≡ both (trie_lookup k (node p v n cs)) (trie_lookup k u)
    meets-in k p v n cs f (node q w m ds) h z
        = shares-node k p q v n cs f w m ds h z (λ b l k. meets-down b k l v n cs f 0 ds h z.2)

    meets-down : (b : ℕ) (k l : List ℕ) (v : Option V) (n : ℕ) (cs : Children V) (f : ℕ → Trie W
        → List (List ℕ × (V × W))) (low : ℕ) (ds : Children W) → Shares f cs → AreCanonical low ds →
        lookup k (intersect_down b l v f ds) ≡ both (trie_lookup k (node l v n cs)) (child_lookup b k ds)
    meets-down b k l v n cs f low no_children h z = sym (both-none (trie_lookup k (node l v n cs)))
    meets-down b k l v n cs f low (child c u ds) h z
        = elim (nat_cmp b c) as (λ o. lookup k (match_ordering o [] (intersect_in l v f u) (intersect_down b l v f ds))
        ≡ both (trie_lookup k (node l v n cs)) (match_ordering o None (trie_lookup k u) (child_lookup b k ds))) [
          | Less ↦ sym (both-none (trie_lookup k (node l v n cs)))
          | Equal ↦ meets-in k l v n cs f u h z.2
          | Greater ↦ meets-down b k l v n cs f (suc c) ds h z.3
        ]

  mutual
    lookup-intersect_nodes : (k : List ℕ) (t : Trie V) (u : Trie W) → IsCanonical u
        → lookup k (intersect_nodes t u) ≡ both (trie_lookup k t) (trie_lookup k u)
    lookup-intersect_nodes k (node p v n cs) u z
        = meets-in k p v n cs (λ b z. intersect_child b z cs) u (λ b k u z. lookup-intersect_kid b k cs u z) z

    lookup-intersect_kid : (b : ℕ) (k : List ℕ) (cs : Children V) (u : Trie W) → IsCanonical u
        → lookup k (intersect_child b u cs) ≡ both (child_lookup b k cs) (trie_lookup k u)
    lookup-intersect_kid b k no_children u z = refl
    lookup-intersect_kid b k (child c t cs) u z
        = elim (nat_cmp b c) as (λ o. lookup k (match_ordering o [] (intersect_nodes t u) (intersect_child b u cs))
        ≡ both (match_ordering o None (trie_lookup k t) (child_lookup b k cs)) (trie_lookup k u)) [
          | Less ↦ refl
          | Equal ↦ lookup-intersect_nodes k t u z
          | Greater ↦ lookup-intersect_kid b k cs u z
        ]

  -- order
  both_some-right : (x : Option V) (y : Option W) (e : V × W) → both x y ≡ Some e → y ≡ None → ⊥
  both_some-right None y e h n = cc
  both_some-right (Some v) None e h n = cc
  both_some-right (Some v) (Some w) e h n = cc

  first-met : (c : ℕ) (f : ℕ → Trie W → List (List ℕ × (V × W))) (cs : Children V) (u : Trie W) → Shares f cs
      → IsCanonical u → StartsWith c (prefix_of u) → AllFirst c (f c u)
  first-met c f cs u h w i = all_first-looks c (f c u)
      (λ k. elim k as (λ k. (e : V × W) → lookup k (f c u) ≡ Some e → StartsWith c k) [
        | [] ↦ λ e s. absurd (both_some-right (child_lookup c [] cs) (trie_lookup [] u) e (sym (h c [] u w) ∙ s)
            (trie_lookup-nil c u i))
        | y ∷ k ↦ λ e s. ⊎_elim (λ q. q) (λ d. absurd
            (both_some-right (child_lookup c (y ∷ k) cs) (trie_lookup (y ∷ k) u) e (sym (h c (y ∷ k) u w) ∙ s)
            (trie_lookup-other y c k u i (λ q. d (sym q))))) (equal_or_not y c)
      ])

  abbrev Ascend : (ℕ → Trie W → List (List ℕ × (V × W))) → Type 0
  Ascend f = (b : ℕ) (u : Trie W) → IsCanonical u → IsAscending (f b u)

  each-from : (f : ℕ → Trie W → List (List ℕ × (V × W))) (cs : Children V) (low : ℕ) (ds : Children W) → Shares f cs
      → AreCanonical low ds → AllFrom low (intersect_each f ds)
  each-from f cs low no_children h w = tt
  each-from f cs low (child c u ds) h w = all_from-first low c (f c u) (intersect_each f ds) w.0
      (first-met c f cs u h w.2 w.1) (each-from f cs (suc c) ds h w.3)

  each-ascends : (f : ℕ → Trie W → List (List ℕ × (V × W))) (cs : Children V) (low : ℕ) (ds : Children W) → Shares f cs
      → Ascend f → AreCanonical low ds → IsAscending (intersect_each f ds)
  each-ascends f cs low no_children h a w = tt
  each-ascends f cs low (child c u ds) h a w
      = ascending-append c (f c u) (intersect_each f ds) (first-met c f cs u h w.2 w.1)
      (each-from f cs (suc c) ds h w.3) (a c u w.2) (each-ascends f cs (suc c) ds h a w.3)

  node-ascends : (p q : List ℕ) (v : Option V) (cs : Children V) (f : ℕ → Trie W → List (List ℕ × (V × W)))
      (w : Option W) (m : ℕ) (ds : Children W) → Shares f cs → Ascend f → IsCanonical (node q w m ds) →
      ((b : ℕ) (l : List ℕ) → IsAscending (intersect_down b l v f ds))
      → IsAscending (intersect_in p v f (node q w m ds))
  node-ascends [] [] v cs f w m ds h a z g
      = ascending-own_pair (both v w) (intersect_each f ds) (each-from f cs 0 ds h z.2) (each-ascends f cs 0 ds h a z.2)
  node-ascends [] (y ∷ q) v cs f w m ds h a z g = a y (node (y ∷ q) w m ds) z
  node-ascends (x ∷ p) [] v cs f w m ds h a z g = g x (x ∷ p)
  node-ascends (x ∷ p) (y ∷ q) v cs f w m ds h a z g
      = elim (x == y) as (λ b. IsAscending (if b then with_prefix (x ∷ []) (intersect_in p v f (node q w m ds))
      else [])) [
        | true ↦ ascending-with_prefix (x ∷ []) (intersect_in p v f (node q w m ds))
            (node-ascends p q v cs f w m ds h a z g)
        | false ↦ tt
      ]

  mutual
    in-ascends : (p : List ℕ) (v : Option V) (cs : Children V) (f : ℕ → Trie W → List (List ℕ × (V × W))) (u : Trie W)
        → Shares f cs → Ascend f → IsCanonical u → IsAscending (intersect_in p v f u)
    in-ascends p v cs f (node q w m ds) h a z
        = node-ascends p q v cs f w m ds h a z (λ b l. down-ascends b l v cs f 0 ds h a z.2)

    down-ascends : (b : ℕ) (l : List ℕ) (v : Option V) (cs : Children V) (f : ℕ → Trie W → List (List ℕ × (V × W)))
        (low : ℕ) (ds : Children W) → Shares f cs → Ascend f → AreCanonical low ds
        → IsAscending (intersect_down b l v f ds)
    down-ascends b l v cs f low no_children h a z = tt
    down-ascends b l v cs f low (child c u ds) h a z
        = elim (nat_cmp b c) as (λ o. IsAscending
        (match_ordering o [] (intersect_in l v f u) (intersect_down b l v f ds))) [
          | Less ↦ tt
          | Equal ↦ in-ascends l v cs f u h a z.2
          | Greater ↦ down-ascends b l v cs f (suc c) ds h a z.3
        ]

  mutual
    intersect_nodes-ascends : (t : Trie V) (u : Trie W) → IsCanonical u → IsAscending (intersect_nodes t u)
    intersect_nodes-ascends (node p v n cs) u z
        = in-ascends p v cs (λ b z. intersect_child b z cs) u (λ b k u z. lookup-intersect_kid b k cs u z)
        (λ b u z. kid-ascends b cs u z) z

    kid-ascends : (b : ℕ) (cs : Children V) (u : Trie W) → IsCanonical u → IsAscending (intersect_child b u cs)
    kid-ascends b no_children u z = tt
    kid-ascends b (child c t cs) u z = elim (nat_cmp b c)
        as (λ o. IsAscending (match_ordering o [] (intersect_nodes t u) (intersect_child b u cs))) [
          | Less ↦ tt
          | Equal ↦ intersect_nodes-ascends t u z
          | Greater ↦ kid-ascends b cs u z
        ]

  pub intersect_nodes-join : (t : Trie V) (u : Trie W) → IsCanonical t → IsCanonical u
      → intersect_nodes t u ≡ join (pairs_of t) (pairs_of u)
  intersect_nodes-join t u w z = equal_by_lookups (intersect_nodes t u) (join (pairs_of t) (pairs_of u))
      (intersect_nodes-ascends t u z) (join-ascends (pairs_of t) (pairs_of u) (pairs_of-ascend t w))
      (λ k. lookup-intersect_nodes k t u z ∙ sym (lookup-join k (pairs_of t) (pairs_of u) (pairs_of-ascend t w)
      ∙ rw (lookup-pairs_of k t w, lookup-pairs_of k u z) refl))
