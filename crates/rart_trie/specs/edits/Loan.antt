-- What a loan of a value leaves of a tree.
use Rattle.std.specs.Prelude.{ℕ, ◌≡◌, List, length, Option, IfNone, OnSome}
use Rattle.rart_keys.specs.SortedMap.{longest_key, put}
use Rattle.rart_trie.specs.tries.Tree.{IsCanonicalTree, tree_nodes, tree_pairs}
use Rattle.rart_trie.specs.tries.Trie.{Trie}

-- the new tree is canonical, with as many pairs as the old one and a longest key as long
abbrev pub IsAlike : {V : Type 0} → Option (Trie V) → Option (Trie V) → Type 0
IsAlike old new = IsCanonicalTree new × (length (tree_pairs new) ≡ length (tree_pairs old))
    × (longest_key (tree_pairs new) ≡ longest_key (tree_pairs old))

-- n is a where something was lent, and else b
abbrev pub EndsLent : {A T : Type 0} → Option A → T → T → T → Type 0
EndsLent lent a b n = OnSome lent (n ≡ a) × IfNone lent (n ≡ b)

-- what was lent, if anything was, is w at k in the new tree; the nodes are the same
abbrev pub LeavesAt : {A V : Type 0} → List ℕ → V → Option A → Option (Trie V) → Option (Trie V) → Type 0
LeavesAt k w lent old new = IsAlike old new
    × OnSome lent ((tree_pairs new ≡ put k w (tree_pairs old)) × (tree_nodes new ≡ tree_nodes old))
