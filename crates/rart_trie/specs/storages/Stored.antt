-- What a storage holds.
use Rattle.std.specs.Prelude.{ℕ, ◌≡◌, ◌≢◌, ◌<◌, ◌≤◌, ◌+◌, List, [], length, Option, None, is_some, if◌then◌else◌}
use Rattle.std.specs.Prelude.{IfNone, OnSome, Some}
use Rattle.rart_maps.specs.FourKeys.{four_entries}
use Rattle.rart_parts.specs.Entries.{sorted_entries, child_at, replaced_at}
use Rattle.rart_trie.specs.declared.node.storage.Kind.{Kind}
use Rattle.rart_trie.specs.declared.node.storage.Kind.TheVariants.{Empty, Leaf, Node4, Node16, Node48, Node256}
use Rattle.rart_trie.specs.storages.Capacities.{shrunk_capacity, previous_capacity}

-- the children, each with its edge byte, in the order of the bytes
abbrev pub child_entries : {P V N : Type 0} → Kind P V N → List (ℕ × N)
child_entries (Empty p) = []
child_entries (Leaf p v) = []
child_entries (Node4 p k b) = four_entries k b
child_entries (Node16 p m) = m.entries
child_entries (Node48 p m) = sorted_entries m.entries
child_entries (Node256 p m) = m.entries

-- the prefix
abbrev pub stored_prefix : {P V N : Type 0} → Kind P V N → P
stored_prefix (Empty p) = p
stored_prefix (Leaf p v) = p
stored_prefix (Node4 p k b) = p
stored_prefix (Node16 p m) = p
stored_prefix (Node48 p m) = p
stored_prefix (Node256 p m) = p

-- the value
abbrev pub stored_value : {P V N : Type 0} → Kind P V N → Option V
stored_value (Empty p) = None
stored_value (Leaf p v) = Some v
stored_value (Node4 p k b) = b.head
stored_value (Node16 p m) = m.extra
stored_value (Node48 p m) = m.extra
stored_value (Node256 p m) = m.extra

-- how many children a storage of its kind holds at most
abbrev pub storage_capacity : {P V N : Type 0} → Kind P V N → ℕ
storage_capacity (Empty p) = 0
storage_capacity (Leaf p v) = 0
storage_capacity (Node4 p k b) = 4
storage_capacity (Node16 p m) = 16
storage_capacity (Node48 p m) = 48
storage_capacity (Node256 p m) = 256

-- there is a child at b, and without it a smaller storage that has a capacity takes the rest
abbrev pub ShrinksStored : {P V N : Type 0} → ℕ → Kind P V N → Type 0
ShrinksStored b s = (child_at b (child_entries s) ≢ None) × (4 < storage_capacity s)
    × (length (child_entries s) ≤ previous_capacity (storage_capacity s) + 1)

-- the capacity of a storage that the child at b was removed from, if there was one, and that has n left
abbrev pub capacity_without : {P V N : Type 0} → ℕ → Kind P V N → ℕ → ℕ
capacity_without b s n = if is_some (child_at b (child_entries s)) then shrunk_capacity n
    (storage_capacity s) else storage_capacity s

-- a storage of the same capacity, value and prefix that holds these children, or the same
abbrev pub StoresSo : {P V N : Type 0} → Kind P V N → List (ℕ × N) → Kind P V N → Type 0
StoresSo old es new = (storage_capacity new ≡ storage_capacity old) × (child_entries new ≡ es)
    × (stored_value new ≡ stored_value old) × (stored_prefix new ≡ stored_prefix old)

abbrev pub StoresSame : {P V N : Type 0} → Kind P V N → Kind P V N → Type 0
StoresSame old new = StoresSo old (child_entries old) new

-- what was lent of the child at b, if anything was, is w in the new storage
abbrev pub StoresLent : {A P V N : Type 0} → ℕ → N → Option A → Kind P V N → Kind P V N → Type 0
StoresLent b w lent old new = OnSome lent (StoresSo old (replaced_at b w (child_entries old)) new)

-- a storage of the same capacity, children and prefix that holds a value, or none
abbrev pub HoldsSo : {P V N : Type 0} → Kind P V N → Option V → Kind P V N → Type 0
HoldsSo old v new = (storage_capacity new ≡ storage_capacity old) × (child_entries new ≡ child_entries old)
    × (stored_value new ≡ v) × (stored_prefix new ≡ stored_prefix old)

-- what was lent of the value is w in the new storage; if nothing was lent, it is the same
abbrev pub LeavesValue : {A P V N : Type 0} → V → Option A → Kind P V N → Kind P V N → Type 0
LeavesValue w lent old new = OnSome lent (HoldsSo old (Some w) new) × IfNone lent (StoresSame old new)

-- a storage of the same capacity, children and value that holds a prefix
abbrev pub HasPrefixSo : {P V N : Type 0} → Kind P V N → P → Kind P V N → Type 0
HasPrefixSo old p new = (storage_capacity new ≡ storage_capacity old) × (child_entries new ≡ child_entries old)
    × (stored_value new ≡ stored_value old) × (stored_prefix new ≡ p)
