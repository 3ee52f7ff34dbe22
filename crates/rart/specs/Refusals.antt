-- When an edit may fail, and what a failed insertion returns.
use Rattle.std.specs.Prelude.{◌≡◌, ◌≢◌, ◌<◌, ◌≤◌, ℕ, List, length, true, Some, None, Result, Ok, Err}
use Rattle.rart_keys.specs.SortedMap.{keys_of, lookup}
use Rattle.rart_trie.specs.edits.InsertAllocations.{insert_allocates}
use Rattle.rart_trie.specs.edits.PrefixRemovals.{TakeAllocates}
use Rattle.rart_trie.specs.edits.RemoveAllocations.{remove_allocates}
use Rattle.rart_parts.specs.declared.error.TreeError.{TreeError}
use Rattle.rart_parts.specs.declared.error.TreeError.TheVariants.{Memory, Full}
use Rattle.rart.specs.declared.tree.TheConstants.{MAX_PAIRS}
use Rattle.rart_trie.specs.declared.refused.NotInserted.{NotInserted}
use Rattle.rart_trie.specs.declared.refused.NotInserted.TheVariants as not_inserted
use Rattle.rart.specs.declared.tree.try_insert.TryInsertError.{TryInsertError}
use Rattle.rart.specs.declared.tree.try_insert.TryInsertError.TheVariants as try_insert

-- an insertion at this key may be refused for this reason. The key is new, and the map is as large as a map can be, or
-- its keys say that the insertion requests memory
abbrev pub MayRefuseInsert : {V : Type 0} → List (List ℕ × V) → List ℕ → TreeError → Type 0
MayRefuseInsert map key Full = (lookup key map ≡ None) × (length map ≡ MAX_PAIRS)
MayRefuseInsert map key Memory = (lookup key map ≡ None) × (length map < MAX_PAIRS)
    × (insert_allocates (keys_of map) key ≡ true)

-- the removal of this key may be refused for this reason: the key is stored, and the keys say that its removal requests
-- memory
abbrev pub MayRefuseRemove : {V : Type 0} → List (List ℕ × V) → List ℕ → TreeError → Type 0
MayRefuseRemove map key error = (error ≡ Memory) × (lookup key map ≢ None) × (remove_allocates (keys_of map) key ≡ true)

-- the removal of all keys below a prefix may be refused for this reason: there is such a key, and the keys say that the
-- removal requests memory
abbrev pub MayRefuseTakePrefix : {V : Type 0} → List (List ℕ × V) → List ℕ → TreeError → Type 0
MayRefuseTakePrefix map prefix error = (error ≡ Memory) × TakeAllocates prefix map

-- the statistics of these keys may be refused for this reason: there are at least two keys
abbrev pub MayLackStats : List (List ℕ) → TreeError → Type 0
MayLackStats keys error = (error ≡ Memory) × (2 ≤ length keys)

-- the offered value is returned: the key is stored, or the insertion failed
abbrev pub IsNotInserted : {V : Type 0} → List (List ℕ × V) → List ℕ → V → NotInserted V → Type 0
IsNotInserted map key value (not_inserted.Stored proposed) = (proposed ≡ value) × (lookup key map ≢ None)
IsNotInserted map key value (not_inserted.Refused refused) = (refused.value ≡ value) × MayRefuseInsert map key
    refused.error

-- `IsNotInserted`, with a reference to the stored value
abbrev pub ShowsWhy : {V : Type 0} → List (List ℕ × V) → List ℕ → V → TryInsertError V → Type 0
ShowsWhy map key value (try_insert.Occupied proposed present) = (proposed ≡ value) × (lookup key map ≡ Some present.now)
ShowsWhy map key value (try_insert.Refused refused) = (refused.value ≡ value) × MayRefuseInsert map key refused.error

-- if the error says that the key is stored, it is
abbrev pub IsStoredAt : {V : Type 0} → List (List ℕ × V) → List ℕ → NotInserted V → Type 0
IsStoredAt map key (not_inserted.Stored proposed) = lookup key map ≢ None
IsStoredAt map key (not_inserted.Refused refused) = Unit {0}

-- the same outcome, with a reference to the stored value if the key is stored
abbrev pub AddsPresent : {V : Type 0} → List (List ℕ × V) → List ℕ → Result Unit (NotInserted V)
    → Result Unit (TryInsertError V) → Type 0
AddsPresent map key (Ok _) (Ok _) = Unit {0}
AddsPresent map key (Err (not_inserted.Stored proposed)) (Err (try_insert.Occupied back present)) = (back ≡ proposed)
    × (lookup key map ≡ Some present.now)
AddsPresent map key (Err (not_inserted.Refused refused)) (Err (try_insert.Refused back)) = back ≡ refused
AddsPresent map key outcome answer = ⊥
