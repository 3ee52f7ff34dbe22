-- What a tree is to its callers, and what holds of its fields.
use Rattle.std.specs.Prelude.{ℕ, ◌≡◌, ◌≤◌, List, length, Option}
use Rattle.rart_keys.specs.KeyBytes.{IsWithin}
use Rattle.rart_keys.specs.SortedMap.{longest_key}
use Rattle.rart_trie.specs.shapes.Shape.{NodeRecord}
use Rattle.rart_trie.specs.tries.Tree.{IsCanonicalTree, tree_pairs}
use Rattle.rart_trie.specs.tries.Trie.{Trie}
use Rattle.rart.specs.declared.tree.TheConstants.{MAX_PAIRS}

-- its pairs, ascending by key, and the record of each of its nodes, ascending by path
pub record MapAndShape (V : Type 0) : Type 0 where
  pub pairs : List (List ℕ × V)
  pub nodes : List (List ℕ × NodeRecord)

-- `len` counts the pairs, and no key is longer than `longest`, which is within the keys' maximum and 0 in an empty tree
pub record AreTreeFields {V : Type 0} (maximum : Option ℕ) (root : Option (Trie V)) (len longest : ℕ) : Type 0 where
  pub canonical : IsCanonicalTree root
  pub counted : len ≡ length (tree_pairs root)
  pub few : len ≤ MAX_PAIRS
  pub short : longest_key (tree_pairs root) ≤ longest
  pub within : IsWithin maximum longest
  pub unused : len ≡ 0 → longest ≡ 0
