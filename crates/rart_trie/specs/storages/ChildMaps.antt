-- What a borrowed map of children holds.
use Rattle.std.specs.Prelude.{ℕ, List, []}
use Rattle.rart_maps.specs.FourKeys.{HasKeyEach, four_entries}
use Rattle.rart_parts.specs.Entries.{sorted_entries}
use Rattle.rart_trie.specs.declared.node.storage.child_map.ChildMap.{ChildMap}
use Rattle.rart_trie.specs.declared.node.storage.child_map.ChildMap.TheVariants.{Childless, Node4, Node16, Node48}
use Rattle.rart_trie.specs.declared.node.storage.child_map.ChildMap.TheVariants.{Node256}

-- the children, each with its edge byte, in the order of the bytes
abbrev pub map_entries : {V N : Type 0} → ChildMap V N → List (ℕ × N)
map_entries Childless = []
map_entries (Node4 k b) = four_entries k.now b.now
map_entries (Node16 m) = m.now.entries
map_entries (Node48 m) = sorted_entries m.now.entries
map_entries (Node256 m) = m.now.entries

-- how many children a map of its kind holds at most
abbrev pub map_capacity : {V N : Type 0} → ChildMap V N → ℕ
map_capacity Childless = 0
map_capacity (Node4 k b) = 4
map_capacity (Node16 m) = 16
map_capacity (Node48 m) = 48
map_capacity (Node256 m) = 256

-- each child has a key, where the keys are not in the block of the children
abbrev pub IsKeyedMap : {V N : Type 0} → ChildMap V N → Type 0
IsKeyedMap Childless = Unit {0}
IsKeyedMap (Node4 k b) = HasKeyEach k.now b.now
IsKeyedMap (Node16 m) = Unit {0}
IsKeyedMap (Node48 m) = Unit {0}
IsKeyedMap (Node256 m) = Unit {0}
