-- At most 2n - 1 nodes.
use Rattle.std.proofs.Common.{◌≡◌, ℕ, ◌+◌, ◌*◌, ◌<◌, ◌≤◌, ⊎_elim, length, refl, arith, Option, Some, None}
use Rattle.std.proofs.Common.{length-append, IsSome, List, ◌++◌}
use Rattle.std.proofs.lemmas.List.{length-map}
use Rattle.rart_trie.specs.tries.PrefixLaws.{length-with_prefix}
use Rattle.rart_trie.specs.tries.Trie.{Trie, node, Children, no_children, child, pairs_of, children_pairs, edges_of}
use Rattle.rart_trie.specs.tries.Trie.{own_pair, nodes_of, children_with_records, HasTwoChildren, IsCanonical}
use Rattle.rart_trie.specs.tries.Trie.{AreCanonical}

module _ {V : Type 0} where
  pub length-own_pair : (v : Option V) → IsSome v → length (own_pair v) ≡ 1
  length-own_pair None h = cc
  length-own_pair (Some x) h = refl

  pub two-edges : (cs : Children V) → HasTwoChildren cs → 2 ≤ length (edges_of cs)
  two-edges no_children h = absurd h
  two-edges (child b t no_children) h = absurd h
  two-edges (child b t (child c u cs)) h = omega arith

  mutual
    pub few_nodes : (t : Trie V) → IsCanonical t → length (nodes_of t) + 1 ≤ 2 * length (pairs_of t)
    few_nodes (node p v n cs) w = simp (length-map, length-append)
        (⊎_elim (λ h. omega (arith, few_children 0 cs w.2, length-own_pair v h))
        (λ h. omega (arith, few_children 0 cs w.2, two-edges cs h)) w.0)

    few_children : (low : ℕ) (cs : Children V) → AreCanonical low cs
        → length (children_pairs (children_with_records cs)) + length (edges_of cs) ≤ 2 * length (children_pairs cs)
    few_children low no_children w = omega arith
    few_children low (child b t cs) w = simp length-append (omega (arith, few_nodes t w.2, few_children _ cs w.3))

  pub some-pairs : (t : Trie V) → IsCanonical t → 0 < length (pairs_of t)
  some-pairs t w = omega (arith, few_nodes t w)

  -- and as many without its prefix
  pub some-after : (p : List ℕ) (v : Option V) (n : ℕ) (cs : Children V) → IsCanonical (node p v n cs)
      → 0 < length (own_pair v ++ children_pairs cs)
  some-after p v n cs w
      = omega (arith, some-pairs (node p v n cs) w, length-with_prefix p (own_pair v ++ children_pairs cs))
