-- A tree as text, one line for each node.
use Rattle.std.specs.Prelude.{ℕ, zero, suc, ◌+◌, List, [], ◌∷◌, ◌++◌, codes, decimal, drop, length, Option, Some, None}
use Rattle.std.specs.Prelude.{is_some}
use Rattle.std.specs.Fmt.{◌++?◌}
use Rattle.std.specs.List.{filter}
use Rattle.rart_keys.specs.ByteStrings.{byte_after}
use Rattle.rart_keys.specs.ByteTexts.{key_text}
use Rattle.rart_keys.specs.SortedMap.{longest_key, lookup}
use Rattle.rart_trie.specs.shapes.Shape.{NodeRecord}
use Rattle.rart_trie.specs.tries.Trie.{Trie, node, Children, no_children, child}

-- two spaces for each level
abbrev pub indent : ℕ → List ℕ
indent zero = []
indent (suc level) = indent level ++ codes "  "

-- the kind of a node of this capacity
abbrev pub kind_text : ℕ → List ℕ
kind_text zero = codes "Leaf"
kind_text (suc n) = codes "Node" ++ decimal (suc n)

-- the nodes whose strings properly begin a string, from the root down
abbrev pub nodes_above : List ℕ → List (List ℕ × NodeRecord) → List (List ℕ × NodeRecord)
nodes_above q ns = filter (λ n. is_some (byte_after n.0 q)) ns

-- the texts of items, one after the other
abbrev pub lines : {X : Type 0} → (X → Option (List ℕ)) → List X → Option (List ℕ)
lines line [] = Some []
lines line (x ∷ xs) = line x ++? lines line xs

module _ {V : Type 0} (shown : V → Option (List ℕ)) where
  -- `=` and a value; nothing without one
  abbrev pub value_text : Option V → Option (List ℕ)
  value_text None = Some []
  value_text (Some v) = Some (codes "=") ++? shown v

  -- the line of a node at a level: its kind, its prefix in quotes, and its value
  abbrev pub node_line : ℕ → List ℕ → Option V → ℕ → Option (List ℕ)
  node_line level p v n = Some (indent level) ++? Some (kind_text n) ++? Some (codes " \"") ++? Some (key_text p)
      ++? Some (codes "\"") ++? value_text v ++? Some (codes "\n")

  -- the line of a node of a list: its level is that of the topmost node and the number of nodes above it, and its
  -- prefix is what follows the string of the lowest of these
  abbrev pub line_under : ℕ → List (List ℕ × NodeRecord) → Option V → List ℕ × NodeRecord → Option (List ℕ)
  line_under top above v n = node_line (top + length above) (drop (longest_key above) n.0) v n.1.capacity

  -- the lines of all nodes, in their order, of which each has the value of the key that its string is
  abbrev pub listed_outline : List (List ℕ × V) → List (List ℕ × NodeRecord) → Option (List ℕ)
  listed_outline es ns = lines (λ n. line_under 0 (nodes_above n.0 ns) (lookup n.0 es) n) ns

  -- the same by recursion: a node's line, and those of its children, which are a level deeper, in order
  abbrev mutual
    pub outline_below : ℕ → Trie V → Option (List ℕ)
    outline_below level (node p v n cs) = node_line level p v n ++? children_outline (suc level) cs

    pub children_outline : ℕ → Children V → Option (List ℕ)
    children_outline level no_children = Some []
    children_outline level (child b t cs) = outline_below level t ++? children_outline level cs
