-- Statistics of a set of keys by its shape, and of a trie.
use Rattle.std.specs.Prelude.{ℕ, ◌+◌, ◌==◌, Bool, nat_le, max, List, [], ◌∷◌, ◌++◌, length, Option, Some, None, is_some}
use Rattle.std.specs.Prelude.{if◌then◌else◌}
use Rattle.rart_trie.specs.shapes.Shape.{NodeRecord, record_at}
use Rattle.rart_trie.specs.declared.stats.NodeStats.{NodeStats}
use Rattle.rart_trie.specs.declared.stats.TreeStats.{TreeStats}
use Rattle.rart_trie.specs.tries.Trie.{Trie, node, Children, no_children, child, edges_of}

-- what one node adds to each number: 1 where it is a leaf, where it is none, where it holds a value
abbrev pub one_if : Bool → ℕ
one_if b = if b then 1 else 0

abbrev pub leaves_at : NodeRecord → ℕ
leaves_at r = one_if (length r.edges == 0)

abbrev pub inner_at : NodeRecord → ℕ
inner_at r = one_if (nat_le 1 (length r.edges))

abbrev pub values_at : NodeRecord → ℕ
values_at r = one_if r.holds_value

-- its children, and its capacity
abbrev pub children_at : NodeRecord → ℕ
children_at r = length r.edges

abbrev pub width_at : NodeRecord → ℕ
width_at r = r.capacity

-- 1 for a node of one width, and its children
abbrev pub nodes_of_width : ℕ → NodeRecord → ℕ
nodes_of_width w r = one_if (r.capacity == w)

abbrev pub children_of_width : ℕ → NodeRecord → ℕ
children_of_width w r = if r.capacity == w then length r.edges else 0

-- the numbers of a tree; `widths` has an entry for each width of which there is a node
pub record KeyStats : Type 0 where
  pub leaves : ℕ
  pub values : ℕ
  pub inner_nodes : ℕ
  pub widths : List (ℕ × NodeStats)
  pub children : ℕ
  pub width : ℕ
  pub height : ℕ

abbrev pub width_entry : ℕ → ℕ → ℕ → List (ℕ × NodeStats)
width_entry w n c = if nat_le 1 n then (w, record { width = w; total_nodes = n; total_children = c }) ∷ [] else []

-- the entries, ascending by width, where f sums what the nodes add
abbrev pub width_entries : ((NodeRecord → ℕ) → ℕ) → List (ℕ × NodeStats)
width_entries f = width_entry 4 (f (nodes_of_width 4)) (f (children_of_width 4))
    ++ width_entry 16 (f (nodes_of_width 16)) (f (children_of_width 16)) ++ width_entry 48 (f (nodes_of_width 48))
    (f (children_of_width 48)) ++ width_entry 256 (f (nodes_of_width 256)) (f (children_of_width 256))

abbrev pub stats_by : ((NodeRecord → ℕ) → ℕ) → ℕ → KeyStats
stats_by f h = record {
  leaves = f leaves_at;
  values = f values_at;
  inner_nodes = f inner_at;
  widths
      = width_entries f;
  children = f children_at;
  width = f width_at;
  height = h;
}

-- the numbers that a program keeps
abbrev pub stats_in : TreeStats → KeyStats
stats_in s = record {
  leaves = s.num_leaves;
  values = s.num_values;
  inner_nodes = s.num_inner_nodes;
  widths
      = s.node_stats.entries;
  children = s.total_children;
  width = s.total_width;
  height = s.max_height;
}

-- the sum of what records add
abbrev pub sum_over : (NodeRecord → ℕ) → List (List ℕ × NodeRecord) → ℕ
sum_over m [] = 0
sum_over m (e ∷ es) = m e.1 + sum_over m es

abbrev pub one_if_some : Option NodeRecord → ℕ
one_if_some None = 0
one_if_some (Some r) = 1

-- how many beginnings of q have a record, by f
abbrev pub records_along : (List ℕ → Option NodeRecord) → List ℕ → ℕ
records_along f [] = one_if_some (f [])
records_along f (b ∷ q) = one_if_some (f []) + records_along (λ p. f (b ∷ p)) q

abbrev pub most_along : (List ℕ → Option NodeRecord) → List (List ℕ) → ℕ
most_along f [] = 0
most_along f (k ∷ s) = max (records_along f k) (most_along f s)

-- the greatest number of branch points that begin one key
abbrev pub height : List (List ℕ) → ℕ
height s = most_along (record_at s) s

-- of keys s whose shape is rs
abbrev pub stats_of : List (List ℕ) → List (List ℕ × NodeRecord) → KeyStats
stats_of s rs = stats_by (λ m. sum_over m rs) (height s)

-- the sum of what the nodes of a trie add
abbrev mutual
  pub sum_in : {V : Type 0} → (NodeRecord → ℕ) → Trie V → ℕ
  sum_in m (node p v n cs) = m (record { holds_value = is_some v; edges = edges_of cs; capacity = n })
      + sum_in_children m cs

  pub sum_in_children : {V : Type 0} → (NodeRecord → ℕ) → Children V → ℕ
  sum_in_children m no_children = 0
  sum_in_children m (child b t cs) = sum_in m t + sum_in_children m cs

-- the greatest number of nodes on a path down to a leaf
abbrev mutual
  pub trie_height : {V : Type 0} → Trie V → ℕ
  trie_height (node p v n cs) = 1 + children_height cs

  pub children_height : {V : Type 0} → Children V → ℕ
  children_height no_children = 0
  children_height (child b t cs) = max (trie_height t) (children_height cs)

abbrev pub trie_stats : {V : Type 0} → Trie V → KeyStats
trie_stats t = stats_by (λ m. sum_in m t) (trie_height t)
