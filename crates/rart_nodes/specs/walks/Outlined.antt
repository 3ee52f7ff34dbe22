-- What an outline is to its readers: the pairs and the records of the nodes that it writes.
use Rattle.std.specs.Prelude.{ℕ, List}
use Rattle.std.specs.declared.cmp.Ord as ord
use Rattle.std.specs.declared.cmp.PartialEq as equality
use Rattle.std.specs.declared.cmp.PartialOrd as partial_ord
use Rattle.rart_keys.specs.declared.keys.KeyTrait as keys
use Rattle.rart_keys.specs.declared.partials.Partial as partials
use Rattle.rart_nodes.specs.declared.node.outline.Outline.{Outline}
use Rattle.rart_nodes.specs.tries.SeenTrees.{seen_nodes, seen_pairs}
use Rattle.rart_trie.specs.shapes.Shape.{NodeRecord}

module _ {K V P : Type 0} {k : keys.Ghosts K P} {e : equality.Ghosts K} {o : ord.Ghosts K} {q : partial_ord.Ghosts K}
    {p : partials.Ghosts P} where
  -- its pairs
  abbrev pub outline_pairs : Outline K V P k e o q p → List (List ℕ × V)
  outline_pairs t = seen_pairs t.seen

  -- the records of its nodes
  abbrev pub outline_nodes : Outline K V P k e o q p → List (List ℕ × NodeRecord)
  outline_nodes t = seen_nodes t.seen
