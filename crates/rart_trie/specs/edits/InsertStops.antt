-- Why an insertion stopped, with everything unchanged.
use Rattle.std.specs.Prelude.{◌≡◌, ◌≢◌, ℕ, Bool, true, List, None}
use Rattle.rart_keys.specs.SortedMap.{lookup}
use Rattle.rart_trie.specs.edits.InsertAllocations.{MayAllocateFor, trie_put_allocates}
use Rattle.rart_trie.specs.tries.Trie.{Trie, trie_lookup, with_records}
use Rattle.rart_trie.specs.declared.node.edits.insert.InsertStop.{InsertStop}
use Rattle.rart_trie.specs.declared.node.edits.insert.InsertStop.TheVariants as stop
use Rattle.rart_trie.specs.declared.refused.NotInserted.{NotInserted}
use Rattle.rart_trie.specs.declared.refused.NotInserted.TheVariants as not_inserted
use Rattle.rart_parts.specs.declared.error.TreeError.TheVariants.{Memory}

module _ {V : Type 0} where
  -- at a node: a value is stored at the key where only a new one is wanted, or an allocation was refused
  abbrev pub FailsPut : Bool → List ℕ → Trie V → InsertStop → Type 0
  FailsPut only_new key trie stop.Stored = (only_new ≡ true) × (trie_lookup key trie ≢ None)
  FailsPut only_new key trie stop.Memory = (trie_put_allocates key trie ≡ true)
      × (trie_lookup key (with_records trie) ≡ None)

  -- `FailsPut`, with the returned value
  abbrev pub FailsInsert : List ℕ → V → Trie V → NotInserted V → Type 0
  FailsInsert key value trie (not_inserted.Stored back) = (back ≡ value) × (trie_lookup key trie ≢ None)
  FailsInsert key value trie (not_inserted.Refused r) = (r.value ≡ value) × (r.error ≡ Memory)
      × (trie_put_allocates key trie ≡ true) × (trie_lookup key (with_records trie) ≡ None)

  -- by the map alone
  abbrev pub FailsInsertInto : List ℕ → V → List (List ℕ × V) → NotInserted V → Type 0
  FailsInsertInto key value map (not_inserted.Stored back) = (back ≡ value) × (lookup key map ≢ None)
  FailsInsertInto key value map (not_inserted.Refused r) = (r.value ≡ value) × (r.error ≡ Memory)
      × MayAllocateFor key map
