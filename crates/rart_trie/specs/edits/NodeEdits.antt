-- What the calls of a node leave of it.
use Rattle.std.specs.Prelude.{ℕ, List, ◌==◌, if◌then◌else◌, nat_lt, length, Some}
use Rattle.rart_trie.specs.declared.node.storage.Kind.{Kind}
use Rattle.rart_trie.specs.storages.Capacities.{widened_capacity}
use Rattle.rart_trie.specs.storages.Stored.{child_entries, storage_capacity, stored_prefix, stored_value}
use Rattle.rart_trie.specs.tries.Trie.{Trie, node, Children, no_children, child, edges_of}
use Rattle.rart_trie.specs.tries.TrieCode.{as_children}

-- children with one more, before the first greater byte
abbrev pub children_with : {V : Type 0} → ℕ → Trie V → Children V → Children V
children_with b t no_children = child b t no_children
children_with b t (child c u cs) = if nat_lt b c then child b t (child c u cs)
    else if c == b then child b t cs else child c u (children_with b t cs)

-- a node with one more child
abbrev pub with_child : {V : Type 0} → ℕ → Trie V → Trie V → Trie V
with_child b t (node p v w cs) = node p v (widened_capacity (length (edges_of cs)) w) (children_with b t cs)

-- a node with a value
abbrev pub with_value : {V : Type 0} → V → Trie V → Trie V
with_value x (node p v w cs) = node p (Some x) w cs

-- the node over a storage
abbrev pub stored_node : {P V : Type 0} → (P → List ℕ) → Kind P V (Trie V) → Trie V
stored_node bytes s = node (bytes (stored_prefix s)) (stored_value s) (storage_capacity s)
    (as_children (child_entries s))
