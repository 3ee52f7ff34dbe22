-- What a node is without one of its children.
use Rattle.std.specs.Prelude.{ℕ, ◌≢◌, ◌<◌, ◌≤◌, ◌+◌, ◌==◌, ◌&&◌, Bool, true, false, List, [], ◌∷◌, ◌++◌}
use Rattle.std.specs.Prelude.{length, Option, Some, None, is_some, if◌then◌else◌}
use Rattle.rart_keys.specs.ByteStrings.{strip_prefix}
use Rattle.rart_keys.specs.KeyBytes.{IsWithin}
use Rattle.rart_trie.specs.tries.Trie.{Trie, node, Children, no_children, child, edges_of, prefix_of, value_of}
use Rattle.rart_trie.specs.tries.Trie.{capacity_in, child_in, children_in, child_of}
use Rattle.rart_trie.specs.storages.Capacities.{shrunk_capacity, previous_capacity}

-- children without the one at a byte
abbrev pub children_without : {V : Type 0} → ℕ → Children V → Children V
children_without b no_children = no_children
children_without b (child c t cs) = if c == b then cs else child c t (children_without b cs)

-- a node with this value and these children is there for one child alone
abbrev pub needs_merge : {V : Type 0} → Option V → Children V → Bool
needs_merge (Some v) cs = false
needs_merge None no_children = false
needs_merge None (child b t no_children) = true
needs_merge None (child b t (child c u cs)) = false

-- the prefix p, joined with that of any of the children, is no longer than a maximum
abbrev pub JoinsWithin : {V : Type 0} → Option ℕ → List ℕ → Children V → Type 0
JoinsWithin m p no_children = Unit {0}
JoinsWithin m p (child b t cs) = IsWithin m (length p + length (prefix_of t)) × JoinsWithin m p cs

-- a node and its first child as one: their prefixes are joined, and the rest is the child's
abbrev pub merged_child : {V : Type 0} → List ℕ → Children V → Trie V
merged_child p no_children = node p None 0 no_children
merged_child p (child b t cs) = node (p ++ prefix_of t) (value_of t) (capacity_in t) (children_in t)

-- a node, joined with its child where it is there for that child alone
abbrev pub merged_if_needed : {V : Type 0} → Trie V → Trie V
merged_if_needed (node p v w cs) = if needs_merge v cs then merged_child p cs else node p v w cs

-- a node of capacity w that a child was taken from, and that has cs left
abbrev pub remaining_node : {V : Type 0} → List ℕ → Option V → ℕ → Children V → Trie V
remaining_node p v w cs = if w == 4 && needs_merge v cs then merged_child p cs
    else node p v (shrunk_capacity (length (edges_of cs)) w) cs

-- a node without the child at a byte
abbrev pub without_child : {V : Type 0} → ℕ → Trie V → Trie V
without_child b (node p v w cs) = if is_some (child_of b cs) then remaining_node p v w (children_without b cs)
    else node p v w cs

-- there is a child at b, and without it the node takes a smaller storage that has a capacity
abbrev pub ShrinksWithout : {V : Type 0} → ℕ → Trie V → Type 0
ShrinksWithout b t = (child_in b t ≢ None) × (4 < capacity_in t)
    × (length (edges_of (children_in t)) ≤ previous_capacity (capacity_in t) + 1)

-- nothing is left of a key
abbrev pub is_end : Option (List ℕ) → Bool
is_end None = false
is_end (Some []) = true
is_end (Some (b ∷ k)) = false

-- a node without children whose prefix is the key
abbrev pub is_leaf_at : {V : Type 0} → List ℕ → Trie V → Bool
is_leaf_at k (node p v w no_children) = is_end (strip_prefix p k)
is_leaf_at k (node p v w (child b t cs)) = false
