-- The visits of an intersection: one more than its edges, and fewer than the nodes of both trees.
use Rattle.std.specs.Ordering.{nat_cmp, match_ordering}
use Rattle.std.proofs.Common.{◌≡◌, ℕ, ◌+◌, ◌≤◌, ◌==◌, ⊎_elim, suc, true, false, List, [], ◌∷◌, length, length-append}
use Rattle.std.proofs.Common.{refl, sym, ap, ◌∙◌, arith, Option, if◌then◌else◌, Less, Equal, Greater}
use Rattle.std.proofs.lemmas.List.{length-map}
use Rattle.rart_keys.specs.SortedMap.{keys_of}
use Rattle.rart_trie.specs.tries.Trie.{Trie, node, Children, no_children, child, pairs_of, with_prefix}
use Rattle.rart_trie.specs.tries.Trie.{nodes_of, IsCanonical, AreCanonical}
use Rattle.rart_trie.specs.tries.TrieCode.{child_count, node_count}
use Rattle.rart_nodes.specs.joins.Intersections.{intersect_each}
use Rattle.rart_nodes.specs.joins.SharedEdges.{shared_edges, visits_each, visits_in, visits_down, more_visits}
use Rattle.rart_nodes.specs.joins.SharedEdges.{visits_child, intersect_visits}
use Rattle.rart_keys.proofs.strings.ByteOrder.{order, is_less, is_equal, is_greater}
use Rattle.rart_nodes.proofs.joins.AlignmentLemmas.{some-count}
use Rattle.rart_nodes.proofs.joins.EdgeLemmas.{edges_in, edges_down, edges, edges_child}
use Rattle.rart_nodes.proofs.joins.SharedLemmas.{edges-shared}
use Rattle.rart_trie.proofs.tree_stats.CountedStats.{node_count-nodes_of}

abbrev Counts : {W : Type 0} → (ℕ → Trie W → ℕ) → (ℕ → Trie W → List (List ℕ × Unit {0})) → Type 0
Counts {W} g f = (b : ℕ) (u : Trie W) → g b u ≡ length (f b u)

module _ {W : Type 0} where
  count-each : (g : ℕ → Trie W → ℕ) (f : ℕ → Trie W → List (List ℕ × Unit {0})) (ds : Children W) → Counts g f
      → visits_each g ds ≡ length (intersect_each f ds)
  count-each g f no_children h = refl
  count-each g f (child c u ds) h = rw (length-append (f c u) (intersect_each f ds), h c u, count-each g f ds h) refl

  count-node : (p q : List ℕ) (g : ℕ → Trie W → ℕ) (f : ℕ → Trie W → List (List ℕ × Unit {0})) (w : Option W) (m : ℕ)
      (ds : Children W) → Counts g f →
      ((b : ℕ) (l : List ℕ) → visits_down b l g ds ≡ length (edges_down b l f ds))
      → visits_in p g (node q w m ds) ≡ length (edges_in p f (node q w m ds))
  count-node [] [] g f w m ds h i = count-each g f ds h
  count-node [] (y ∷ q) g f w m ds h i = h y (node (y ∷ q) w m ds)
  count-node (x ∷ p) [] g f w m ds h i = i x (x ∷ p)
  count-node (x ∷ p) (y ∷ q) g f w m ds h i
      = elim (x == y) as (λ b. (if b then visits_in p g (node q w m ds) else 0)
      ≡ length (if b then with_prefix (x ∷ []) (edges_in p f (node q w m ds)) else [])) [
        | true ↦ count-node p q g f w m ds h i ∙ sym (length-map (edges_in p f (node q w m ds)) (λ e. (x ∷ e.0, e.1)))
        | false ↦ refl
      ]

  mutual
    count-in : (p : List ℕ) (g : ℕ → Trie W → ℕ) (f : ℕ → Trie W → List (List ℕ × Unit {0})) (u : Trie W) → Counts g f
        → visits_in p g u ≡ length (edges_in p f u)
    count-in p g f (node q w m ds) h = count-node p q g f w m ds h (λ b l. count-down b l g f ds h)

    count-down : (b : ℕ) (l : List ℕ) (g : ℕ → Trie W → ℕ) (f : ℕ → Trie W → List (List ℕ × Unit {0})) (ds : Children W)
        → Counts g f → visits_down b l g ds ≡ length (edges_down b l f ds)
    count-down b l g f no_children h = refl
    count-down b l g f (child c u ds) h = elim (nat_cmp b c)
        as (λ o. match_ordering o 0 (1 + visits_in l g u) (visits_down b l g ds)
        ≡ length (match_ordering o [] ((b ∷ [], tt) ∷ edges_in l f u) (edges_down b l f ds))) [
          | Less ↦ refl
          | Equal ↦ omega (arith, count-in l g f u h)
          | Greater ↦ count-down b l g f ds h
        ]

module _ {V W : Type 0} where
  mutual
    count-edges : (t : Trie V) (u : Trie W) → more_visits t u ≡ length (edges t u)
    count-edges (node p v n cs) u = count-in p (λ b z. visits_child b z cs) (λ b z. edges_child b z cs) u
        (λ b u. count-kid b cs u)

    count-kid : (b : ℕ) (cs : Children V) (u : Trie W) → visits_child b u cs ≡ length (edges_child b u cs)
    count-kid b no_children u = refl
    count-kid b (child c t cs) u = elim (nat_cmp b c)
        as (λ o. match_ordering o 0 (1 + more_visits t u) (visits_child b u cs)
        ≡ length (match_ordering o [] ((b ∷ [], tt) ∷ edges t u) (edges_child b u cs))) [
          | Less ↦ refl
          | Equal ↦ omega (arith, count-edges t u)
          | Greater ↦ count-kid b cs u
        ]

  pub visits-shared : (t : Trie V) (u : Trie W) → IsCanonical t → IsCanonical u
      → intersect_visits t u ≡ 1 + length (shared_edges (keys_of (pairs_of t)) (keys_of (pairs_of u)))
  visits-shared t u w z = ap (λ n. 1 + n) (count-edges t u ∙ sym (length-map (edges t u) (λ e. e.0))
      ∙ ap length (edges-shared t u w z))

-- fewer than the nodes
abbrev child_size : {V : Type 0} → ℕ → Children V → ℕ
child_size b no_children = 0
child_size b (child c t cs) = match_ordering (nat_cmp b c) 0 (node_count t) (child_size b cs)

-- of the children from low on
abbrev rest_size : {V : Type 0} → ℕ → Children V → ℕ
rest_size low no_children = 0
rest_size low (child c t cs) = match_ordering (nat_cmp c low) 0 (node_count t) (node_count t) + rest_size low cs

module _ {V : Type 0} where
  rest-less : (low high : ℕ) (cs : Children V) → low ≤ high → rest_size high cs ≤ rest_size low cs
  rest-less low high no_children h = omega arith
  rest-less low high (child c t cs) h = ⊎_elim (λ l. rw (is_less c high l) (omega (arith, rest-less low high cs h)))
      (⊎_elim (λ e. ⊎_elim (λ l. absurd (omega arith))
      (⊎_elim (λ f. rw (is_equal c high e, is_equal c low f) (omega (arith, rest-less low high cs h)))
      (λ g. rw (is_equal c high e, is_greater c low g) (omega (arith, rest-less low high cs h)))) (order c low))
      (λ g. rw (is_greater c high g, is_greater c low (omega arith)) (omega (arith, rest-less low high cs h))))
      (order c high)

  rest-all : (low : ℕ) (cs : Children V) → rest_size low cs ≤ child_count cs
  rest-all low no_children = omega arith
  rest-all low (child c t cs) = elim (nat_cmp c low)
      as (λ o. match_ordering o 0 (node_count t) (node_count t) + rest_size low cs ≤ child_count (child c t cs)) [
        | Less ↦ omega (arith, rest-all low cs)
        | Equal ↦ omega (arith, rest-all low cs)
        | Greater ↦ omega (arith, rest-all low cs)
      ]

  rest-child : (c low : ℕ) (cs : Children V) → low ≤ c → child_size c cs + rest_size (suc c) cs ≤ rest_size low cs
  rest-child c low no_children h = omega arith
  rest-child c low (child d t cs) h = ⊎_elim
      (λ l. rw (is_less c d l) (omega (arith, rest-less low (suc c) (child d t cs) (omega arith))))
      (⊎_elim (λ e. rw (is_equal c d e, is_less d (suc c) (omega arith))
      (omega (arith, rest-less low (suc c) cs (omega arith), rest-here low d t (omega arith))))
      (λ g. rw (is_greater c d g, is_less d (suc c) (omega arith)) (omega (arith, rest-child c low cs h)))) (order c d)
    where
      rest-here : (low d : ℕ) (t : Trie V) → low ≤ d
          → node_count t ≤ match_ordering (nat_cmp d low) 0 (node_count t) (node_count t)
      rest-here low d t h = ⊎_elim (λ l. absurd (omega arith))
          (⊎_elim (λ e. rw (is_equal d low e) (omega arith)) (λ g. rw (is_greater d low g) (omega arith))) (order d low)

module _ {V W : Type 0} where
  abbrev Few : (ℕ → Trie W → ℕ) → Children V → Type 0
  Few g cs = (b : ℕ) (u : Trie W) → IsCanonical u → g b u + 1 ≤ child_size b cs + node_count u

  few-each : (g : ℕ → Trie W → ℕ) (cs : Children V) (low : ℕ) (ds : Children W) → Few g cs → AreCanonical low ds
      → visits_each g ds ≤ rest_size low cs + child_count ds
  few-each g cs low no_children h w = omega arith
  few-each g cs low (child c u ds) h w = omega
      (arith, h c u w.2, few-each g cs (suc c) ds h w.3, rest-child c low cs w.0)

  few-node : (p q : List ℕ) (g : ℕ → Trie W → ℕ) (cs : Children V) (w : Option W) (m : ℕ) (ds : Children W) → Few g cs
      → IsCanonical (node q w m ds) →
      ((b : ℕ) (l : List ℕ) → visits_down b l g ds + 1 ≤ child_count cs + 1 + child_count ds)
      → visits_in p g (node q w m ds) + 2 ≤ child_count cs + 1 + (child_count ds + 1)
  few-node [] [] g cs w m ds h z i = omega (arith, few-each g cs 0 ds h z.2, rest-all 0 cs)
  few-node [] (y ∷ q) g cs w m ds h z i = omega
      (arith, h y (node (y ∷ q) w m ds) z, rest-child y 0 cs (omega arith), rest-all 0 cs)
  few-node (x ∷ p) [] g cs w m ds h z i = omega (arith, i x (x ∷ p))
  few-node (x ∷ p) (y ∷ q) g cs w m ds h z i
      = elim (x == y) as (λ b. (if b then visits_in p g (node q w m ds) else 0) + 2
      ≤ child_count cs + 1 + (child_count ds + 1)) [
        | true ↦ few-node p q g cs w m ds h z i
        | false ↦ omega arith
      ]

  mutual
    few-in : (p : List ℕ) (g : ℕ → Trie W → ℕ) (cs : Children V) (u : Trie W) → Few g cs → IsCanonical u
        → visits_in p g u + 2 ≤ child_count cs + 1 + node_count u
    few-in p g cs (node q w m ds) h z = few-node p q g cs w m ds h z (λ b l. few-down b l g cs 0 ds h z.2)

    few-down : (b : ℕ) (l : List ℕ) (g : ℕ → Trie W → ℕ) (cs : Children V) (low : ℕ) (ds : Children W) → Few g cs
        → AreCanonical low ds → visits_down b l g ds + 1 ≤ child_count cs + 1 + child_count ds
    few-down b l g cs low no_children h z = omega arith
    few-down b l g cs low (child c u ds) h z
        = elim (nat_cmp b c) as (λ o. match_ordering o 0 (1 + visits_in l g u) (visits_down b l g ds) + 1
        ≤ child_count cs + 1 + child_count (child c u ds)) [
          | Less ↦ omega arith
          | Equal ↦ omega (arith, few-in l g cs u h z.2)
          | Greater ↦ omega (arith, few-down b l g cs (suc c) ds h z.3)
        ]

  mutual
    few_more : (t : Trie V) (u : Trie W) → IsCanonical u → more_visits t u + 2 ≤ node_count t + node_count u
    few_more (node p v n cs) u z = few-in p (λ b z. visits_child b z cs) cs u (λ b u z. few-kid b cs u z) z

    few-kid : (b : ℕ) (cs : Children V) (u : Trie W) → IsCanonical u
        → visits_child b u cs + 1 ≤ child_size b cs + node_count u
    few-kid b no_children u z = omega (arith, some-count u)
    few-kid b (child c t cs) u z = elim (nat_cmp b c)
        as (λ o. match_ordering o 0 (1 + more_visits t u) (visits_child b u cs) + 1
        ≤ match_ordering o 0 (node_count t) (child_size b cs) + node_count u) [
          | Less ↦ omega (arith, some-count u)
          | Equal ↦ omega (arith, few_more t u z)
          | Greater ↦ few-kid b cs u z
        ]

  pub visits_below_nodes : (t : Trie V) (u : Trie W) → IsCanonical u
      → intersect_visits t u + 1 ≤ length (nodes_of t) + length (nodes_of u)
  visits_below_nodes t u z = omega (arith, few_more t u z, node_count-nodes_of t, node_count-nodes_of u)
