-- The children that two nodes have in common, and where two prefixes end together.
use Rattle.std.specs.Prelude.{ℕ, ◌≡◌, ◌+◌, ◌≤◌, List, [], ◌∷◌, ◌++◌, length, Option, Some, None}
use Rattle.rart_keys.specs.Joins.{both}
use Rattle.rart_keys.specs.SortedMap.{longest_key}
use Rattle.rart_nodes.specs.joins.Intersections.{intersect_nodes}
use Rattle.rart_nodes.specs.joins.SharedEdges.{more_visits}
use Rattle.rart_trie.specs.tries.Trie.{Trie, Children, no_children, child, children_in, children_pairs, child_in}
use Rattle.rart_trie.specs.tries.Trie.{own_pair, pairs_of, value_of, with_prefix}
use Rattle.rart_trie.specs.tries.TrieCode.{node_count}

-- a pair in front, if there is one
abbrev pub shared_child_if : {A : Type 0} → Option A → List A → List A
shared_child_if None ps = ps
shared_child_if (Some p) ps = p ∷ ps

-- the children that t has too, each after t's
abbrev pub shared_right : {V W : Type 0} → Trie V → Children W → List (Trie V × Trie W)
shared_right t no_children = []
shared_right t (child b u ds) = shared_child_if (both (child_in b t) (Some u)) (shared_right t ds)

-- the children that u has too, each with u's
abbrev pub shared_left : {V W : Type 0} → Children V → Trie W → List (Trie V × Trie W)
shared_left no_children u = []
shared_left (child b t cs) u = shared_child_if (both (Some t) (child_in b u)) (shared_left cs u)

-- what pairs of nodes give, one pair after the other
abbrev pub intersect_all : {V W : Type 0} → List (Trie V × Trie W) → List (List ℕ × (V × W))
intersect_all [] = []
intersect_all (p ∷ ps) = intersect_nodes p.0 p.1 ++ intersect_all ps

-- the visits that it takes, with those of the pairs
abbrev pub visits_all : {V W : Type 0} → List (Trie V × Trie W) → ℕ
visits_all [] = 0
visits_all (p ∷ ps) = 1 + more_visits p.0 p.1 + visits_all ps

-- two nodes a and b whose prefixes end together, p after the beginnings of t and u, give all that those do
pub record IsAligned {V W : Type 0} (t : Trie V) (u : Trie W) (p : List ℕ) (a : Trie V) (b : Trie W) : Type 0 where
  pub given : intersect_nodes t u ≡ with_prefix p
      (own_pair (both (value_of a) (value_of b)) ++ intersect_all (shared_right a (children_in b)))
  pub few : node_count a + node_count b ≤ node_count t + node_count u
  pub short : length p + longest_key (children_pairs (children_in a)) ≤ longest_key (pairs_of t)

-- two strings after the bytes w with which both begin, k and q, which don't continue by the same byte
pub record IsParted (l r w k q : List ℕ) : Type 0 where
  pub left_is : l ≡ w ++ k
  pub right_is : r ≡ w ++ q
  pub apart : (x y : ℕ) (k' q' : List ℕ) → k ≡ x ∷ k' → q ≡ y ∷ q' → x ≡ y → ⊥
