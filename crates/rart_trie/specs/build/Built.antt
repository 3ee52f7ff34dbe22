-- The node that a build makes of its parts.
use Rattle.std.specs.Prelude.{ℕ, List}
use Rattle.rart_trie.specs.declared.node.storage.Kind.{Kind}
use Rattle.rart_trie.specs.storages.Stored.{child_entries, storage_capacity, stored_value}
use Rattle.rart_trie.specs.tries.Trie.{Trie, node}
use Rattle.rart_trie.specs.tries.TrieCode.{as_children}

-- the node with this prefix and the value and the children of a storage
abbrev pub built : {P V : Type 0} → List ℕ → Kind P V (Trie V) → Trie V
built p s = node p (stored_value s) (storage_capacity s) (as_children (child_entries s))
