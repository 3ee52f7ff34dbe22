-- What an intersection of two trees gives and visits, by their pairs.
use Rattle.std.proofs.Common.{◌≡◌, ℕ, ◌+◌, ◌-◌, ◌<◌, ◌≤◌, List, [], ◌∷◌, length, Option, Some, None, refl, arith, sym}
use Rattle.std.proofs.Common.{◌∙◌}
use Rattle.rart_keys.specs.SortedMap.{keys_of}
use Rattle.rart_keys.specs.Joins.{join}
use Rattle.rart_keys.proofs.maps.JoinsOfMaps.{join-nil}
use Rattle.rart_nodes.specs.joins.Intersections.{intersect_nodes}
use Rattle.rart_nodes.specs.joins.SharedEdges.{shared_edges, joint_visits, more_visits}
use Rattle.rart_trie.specs.tries.Tree.{tree_nodes, tree_pairs, IsCanonicalTree}
use Rattle.rart_trie.specs.tries.Trie.{Trie, pairs_of}
use Rattle.rart_nodes.proofs.joins.IntersectLemmas.{intersect_nodes-join}
use Rattle.rart_nodes.proofs.joins.IntersectSteps.{met_visits}
use Rattle.rart_nodes.proofs.joins.IntersectVisits.{visits-shared, visits_below_nodes}
use Rattle.rart_trie.proofs.tries.NodeCounts.{some-pairs}

joint-none : {V : Type 0} (l : List (List ℕ × V)) → joint_visits (keys_of l) [] ≡ 0
joint-none [] = refl
joint-none (e ∷ l) = refl

module _ {V W : Type 0} where
  joint-some : (l : List (List ℕ × V)) (m : List (List ℕ × W)) → 0 < length l → 0 < length m
      → joint_visits (keys_of l) (keys_of m) ≡ 1 + length (shared_edges (keys_of l) (keys_of m))
  joint-some [] m h k = absurd (omega arith)
  joint-some (e ∷ l) [] h k = absurd (omega arith)
  joint-some (e ∷ l) (d ∷ m) h k = refl

  met_visits-joint : (t : Option (Trie V)) (u : Option (Trie W)) → IsCanonicalTree t → IsCanonicalTree u
      → met_visits t u ≡ joint_visits (keys_of (tree_pairs t)) (keys_of (tree_pairs u))
  met_visits-joint None u w z = refl
  met_visits-joint (Some t) None w z = sym (joint-none (pairs_of t))
  met_visits-joint (Some t) (Some u) w z = visits-shared t u w z
      ∙ sym (joint-some (pairs_of t) (pairs_of u) (some-pairs t w) (some-pairs u z))

  pub joined-right_none : (t : Option (Trie V)) (u : Option (Trie W)) → None ≡ u
      → (join (tree_pairs t) (tree_pairs u) ≡ []) × (joint_visits (keys_of (tree_pairs t)) (keys_of (tree_pairs u)) ≡ 0)
  joined-right_none t None e = (join-nil (tree_pairs t), joint-none (tree_pairs t))
  joined-right_none t (Some u) e = absurd (cc)

  pub record Joined (t : Option (Trie V)) (u : Option (Trie W)) (a : Trie V) (b : Trie W) : Type 0 where
    pub pairs : join (tree_pairs t) (tree_pairs u) ≡ intersect_nodes a b
    pub visits : joint_visits (keys_of (tree_pairs t)) (keys_of (tree_pairs u)) ≡ 1 + more_visits a b
    pub few : 1 + more_visits a b ≤ length (tree_nodes t) + length (tree_nodes u) - 1
    pub keys : pairs_of a ≡ tree_pairs t

  pub joined-both : (t : Option (Trie V)) (u : Option (Trie W)) (a : Trie V) (b : Trie W) → IsCanonicalTree t
      → IsCanonicalTree u → Some a ≡ t → Some b ≡ u → Joined t u a b
  joined-both None u a b w z e f = absurd (cc)
  joined-both (Some t) None a b w z e f = absurd (cc)
  joined-both (Some t) (Some u) a b w z e f =
      let p : a ≡ t = cc in
      let q : b ≡ u = cc in
      rw (p, q) (record {
        pairs = sym (intersect_nodes-join t u w z);
        visits = sym (met_visits-joint (Some t) (Some u) w z);
        few = omega (arith, visits_below_nodes t u z);
        keys = refl;
      })
