-- A tree: a root or none.
use Rattle.std.specs.Prelude.{ℕ, List, [], Option, Some, None}
use Rattle.rart_trie.specs.shapes.Shape.{NodeRecord}
use Rattle.rart_trie.specs.tries.Trie.{Trie, pairs_of, nodes_of, descend_tree, looks_up, leaf, trie_put, trie_remove}
use Rattle.rart_trie.specs.tries.Trie.{IsCanonical}

-- the pairs of a tree
abbrev pub tree_pairs : {V : Type 0} → Option (Trie V) → List (List ℕ × V)
tree_pairs None = []
tree_pairs (Some t) = pairs_of t

-- the records of its nodes
abbrev pub tree_nodes : {V : Type 0} → Option (Trie V) → List (List ℕ × NodeRecord)
tree_nodes None = []
tree_nodes (Some t) = nodes_of t

-- a look-up in it
abbrev pub tree_lookup : {V : Type 0} → List ℕ → Option (Trie V) → Option V
tree_lookup k o = descend_tree looks_up k o

-- an insertion into it
abbrev pub tree_put : {V : Type 0} → List ℕ → V → Option (Trie V) → Trie V
tree_put k v None = leaf k v
tree_put k v (Some t) = trie_put k v t

-- a removal from it
abbrev pub tree_remove : {V : Type 0} → List ℕ → Option (Trie V) → Option (Trie V)
tree_remove k None = None
tree_remove k (Some t) = trie_remove k t

-- there is no root, or a canonical one
abbrev pub IsCanonicalTree : {V : Type 0} → Option (Trie V) → Type 0
IsCanonicalTree None = Unit {0}
IsCanonicalTree (Some t) = IsCanonical t
