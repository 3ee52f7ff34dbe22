-- The capacities of the nodes of a canonical trie, together: at most 16 (n - 1) for n keys.
use Rattle.std.proofs.Common.{◌≡◌, ℕ, ◌+◌, ◌*◌, ◌≤◌, ◌⊎◌, inl, inr, ⊎_elim, length, arith, length-append}
use Rattle.std.proofs.lemmas.Bool.Decides.{nat_tests}
use Rattle.std.proofs.lemmas.List.{length-map}
use Rattle.rart_trie.specs.shapes.Shape.{capacity_of}
use Rattle.rart_trie.specs.tries.Trie.{Trie, node, Children, no_children, child, pairs_of, children_pairs, edges_of}
use Rattle.rart_trie.specs.tries.Trie.{own_pair, IsCanonical, AreCanonical}
use Rattle.rart_trie.specs.stats.Stats.{width_at, sum_in, sum_in_children}
use Rattle.rart_trie.proofs.tries.NodeCounts.{length-own_pair, two-edges}

few-places : (c h : ℕ) → (h ≡ 1) ⊎ (2 ≤ c) → capacity_of c + 16 ≤ 16 * h + 16 * c
few-places c h s = grind (arith, nat_tests)

module _ {V : Type 0} where
  mutual
    pub few_widths : (t : Trie V) → IsCanonical t → sum_in width_at t + 16 ≤ 16 * length (pairs_of t)
    few_widths (node p v n cs) w = simp (length-map, length-append)
        (omega (
          arith,
          w.1,
          few_widths-children 0 cs w.2,
          few-places (length (edges_of cs)) (length (own_pair v))
              (⊎_elim (λ h. inl (length-own_pair v h)) (λ h. inr (two-edges cs h)) w.0),
        ))

    few_widths-children : (low : ℕ) (cs : Children V) → AreCanonical low cs
        → sum_in_children width_at cs + 16 * length (edges_of cs) ≤ 16 * length (children_pairs cs)
    few_widths-children low no_children w = omega arith
    few_widths-children low (child b t cs) w
        = simp length-append (omega (arith, few_widths t w.2, few_widths-children _ cs w.3))
