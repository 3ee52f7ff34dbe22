-- The counted numbers of a canonical trie are its statistics, and stay within 16 for each key.
use Rattle.std.proofs.Common.{◌≡◌, ℕ, ◌+◌, ◌*◌, ◌≤◌, ◌==◌, length, refl, ap, ◌∙◌, arith, if◌then◌else◌, length-append}
use Rattle.std.specs.Prelude.{nat_le}
use Rattle.std.proofs.lemmas.Bool.Decides.{nat_tests}
use Rattle.std.proofs.lemmas.List.{length-map}
use Rattle.rart_keys.specs.SortedMap.{keys_of}
use Rattle.rart_trie.specs.declared.stats.counts.Counts.{Counts}
use Rattle.rart_trie.specs.stats.CountedNodes.{counts_by, sum_of_counts, counts_in, counts_in_children, counts_sum}
use Rattle.rart_trie.specs.stats.CountedNodes.{inner_counted, children_counted, counted_width, stats_of_counts}
use Rattle.rart_trie.specs.shapes.Shape.{capacity_of}
use Rattle.rart_trie.specs.stats.Stats.{KeyStats, one_if, inner_at, children_at, width_at, sum_in}
use Rattle.rart_trie.specs.stats.Stats.{sum_in_children, trie_height, stats_of}
use Rattle.rart_trie.specs.tries.Trie.{Trie, node, Children, no_children, child, pairs_of, children_pairs, edges_of}
use Rattle.rart_trie.specs.tries.Trie.{nodes_of, children_with_records, IsCanonical, AreCanonical}
use Rattle.rart_trie.specs.tries.TrieCode.{node_count, child_count}
use Rattle.rart_trie.proofs.tree_stats.CountLemmas.{few-counted}
use Rattle.rart_trie.proofs.tries.NodeCounts.{few_nodes}
use Rattle.rart_trie.proofs.tree_stats.StatsLemmas.{statistics-keys}
use Rattle.rart_trie.proofs.tree_stats.WidthSums.{few_widths}

-- a node whose width its children fix is counted under one of the four widths, unless it is a leaf
one-kind : (n c : ℕ) → n ≡ capacity_of c → one_if (nat_le 1 c) ≡ one_if (n == 4) + one_if (n == 16) + one_if (n == 48)
    + one_if (n == 256)
one-kind n c e = grind (arith, nat_tests)

kind-children : (n c : ℕ) → n ≡ capacity_of c
    → c ≡ (if n == 4 then c else 0) + (if n == 16 then c else 0) + (if n == 48 then c else 0)
    + (if n == 256 then c else 0)
kind-children n c e = grind (arith, nat_tests)

kind-width : (n c : ℕ) → n ≡ capacity_of c → n ≡ 4 * one_if (n == 4) + 16 * one_if (n == 16) + 48 * one_if (n == 48)
    + 256 * one_if (n == 256)
kind-width n c e = grind (arith, nat_tests)

add-zero : (a : ℕ) → 0 + a ≡ a
add-zero a = omega arith

from-none : (a : Counts) → sum_of_counts (counts_by (λ m. 0)) a ≡ a
from-none a = simp add-zero refl

module _ {V : Type 0} where
  mutual
    kinds-summed : (t : Trie V) → IsCanonical t →
        (inner_counted (counts_in t) ≡ sum_in inner_at t) × (children_counted (counts_in t) ≡ sum_in children_at t)
        × (counted_width (counts_in t) ≡ sum_in width_at t)
    kinds-summed (node p v n cs) w =
        let below = kinds-summed-children 0 cs w.2 in
        let c = length (edges_of cs) in (
          omega (arith, one-kind n c w.1, below.0),
          omega (arith, kind-children n c w.1, below.1),
          omega
              (arith, kind-width n c w.1, below.2),
        )

    kinds-summed-children : (low : ℕ) (cs : Children V) → AreCanonical low cs →
        (inner_counted (counts_in_children cs) ≡ sum_in_children inner_at cs)
        × (children_counted (counts_in_children cs) ≡ sum_in_children children_at cs)
        × (counted_width (counts_in_children cs) ≡ sum_in_children width_at cs)
    kinds-summed-children low no_children w = (omega arith, omega arith, omega arith)
    kinds-summed-children low (child b t cs) w =
        let first = kinds-summed t w.2 in
        let rest = kinds-summed-children _ cs w.3 in
        (omega (arith, first.0, rest.0), omega (arith, first.1, rest.1), omega (arith, first.2, rest.2))

  pub counted-stats : (t : Trie V) (c : Counts) (h : ℕ) (s : KeyStats) → IsCanonical t
      → c ≡ sum_of_counts (counts_by (λ m. 0)) (counts_in t) → h ≡ trie_height t → s ≡ stats_of_counts c h →
      s ≡ stats_of (keys_of (pairs_of t)) (nodes_of t)
  counted-stats t c h s w e i r =
      let sums = kinds-summed t w in
      r ∙ ap (stats_of_counts c) i ∙ ap (λ c. stats_of_counts c (trie_height t)) (e ∙ from-none (counts_in t))
      ∙ rw (sums.0, sums.1, sums.2) refl ∙ statistics-keys t w

  mutual
    pub node_count-nodes_of : (t : Trie V) → length (nodes_of t) ≡ node_count t
    node_count-nodes_of (node p v n cs) = simp (length-map) (omega (arith, child_count-nodes cs))

    child_count-nodes : (cs : Children V) → length (children_pairs (children_with_records cs)) ≡ child_count cs
    child_count-nodes no_children = omega arith
    child_count-nodes (child b t cs) = simp length-append (omega (arith, node_count-nodes_of t, child_count-nodes cs))

  pub few-for-keys : (t : Trie V) → IsCanonical t → 4 * node_count t ≤ 16 * length (pairs_of t)
  few-for-keys t w = omega (arith, few_nodes t w, node_count-nodes_of t)

  pub sums-for-keys : (t : Trie V) (c : Counts) → IsCanonical t → c ≡ sum_of_counts (counts_by (λ m. 0)) (counts_in t)
      → (counts_sum c ≤ 16 * length (pairs_of t)) × (counted_width c ≤ 16 * length (pairs_of t))
  sums-for-keys t c w e =
      let same = e ∙ from-none (counts_in t) in (
        omega (arith, ap counts_sum same, few-counted t, few-for-keys t w),
        omega
            (arith, ap counted_width same, (kinds-summed t w).2, few_widths t w),
      )

  -- an inner node has capacity for four children, and there are two keys
  pub inner-keys : (t : Trie V) (c : Counts) → IsCanonical t → c ≡ sum_of_counts (counts_by (λ m. 0)) (counts_in t)
      → 1 ≤ inner_counted c → 2 ≤ length (pairs_of t)
  inner-keys t c w e i = let same = e ∙ from-none (counts_in t) in
      omega (arith, i, ap inner_counted same, (kinds-summed t w).2, few_widths t w)
