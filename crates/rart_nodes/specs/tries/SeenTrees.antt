-- What a shared tree is to its readers: its pairs, its nodes, and a bound of its keys' lengths.
use Rattle.std.specs.Prelude.{ℕ, List, Option}
use Rattle.std.specs.Option.{option_copied}
use Rattle.std.specs.declared.cmp.Ord as ord
use Rattle.std.specs.declared.cmp.PartialEq as equality
use Rattle.std.specs.declared.cmp.PartialOrd as partial_ord
use Rattle.rart_keys.specs.SortedMap.{keys_of}
use Rattle.rart_keys.specs.declared.keys.KeyTrait as keys
use Rattle.rart_keys.specs.declared.partials.Partial as partials
use Rattle.rart_nodes.specs.declared.node.seen.Seen.{Seen}
use Rattle.rart_trie.specs.shapes.Shape.{NodeRecord}
use Rattle.rart_trie.specs.tries.Tree.{tree_nodes, tree_pairs}
use Rattle.rart_trie.specs.tries.Trie.{Trie}

module _ {K V C P : Type 0} {k : keys.Ghosts K P} {e : equality.Ghosts K} {o : ord.Ghosts K} {q : partial_ord.Ghosts K}
    {p : partials.Ghosts P} where
  -- the tree
  abbrev pub seen_tree : Seen K V C P k e o q p → Option (Trie V)
  seen_tree s = option_copied s.root

  -- its pairs
  abbrev pub seen_pairs : Seen K V C P k e o q p → List (List ℕ × V)
  seen_pairs s = tree_pairs (seen_tree s)

  -- its keys
  abbrev pub seen_keys : Seen K V C P k e o q p → List (List ℕ)
  seen_keys s = keys_of (seen_pairs s)

  -- the records of its nodes
  abbrev pub seen_nodes : Seen K V C P k e o q p → List (List ℕ × NodeRecord)
  seen_nodes s = tree_nodes (seen_tree s)

  -- no key is longer
  abbrev pub length_bound : Seen K V C P k e o q p → ℕ
  length_bound s = s.longest
