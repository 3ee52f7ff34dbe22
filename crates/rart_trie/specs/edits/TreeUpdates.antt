-- What an update of a tree ends as.
use Rattle.std.specs.Prelude.{ℕ, ◌≡◌, ◌≢◌, ◌<◌, ◌≤◌, ◌+◌, List, Bool, true, false, length, Option, Some, None}
use Rattle.std.specs.Prelude.{option_and_then, Result, Ok, Err}
use Rattle.rart_trie.specs.declared.slot.Outcome.{Outcome}
use Rattle.rart_trie.specs.declared.slot.Outcome.TheVariants.{Absent, Kept, Replaced, Removed}
use Rattle.rart_trie.specs.declared.slot.SlotUpdate.{SlotUpdate}
use Rattle.rart_trie.specs.declared.slot.SlotUpdate.TheVariants.{Keep, Remove, Insert}
use Rattle.rart_trie.specs.declared.slot.UpdateError.{UpdateError}
use Rattle.rart_trie.specs.declared.slot.UpdateError.TheVariants.{Insert as Not_inserted, Remove as Not_removed}
use Rattle.rart_trie.specs.edits.Deletion.{merged_if_needed, without_child}
use Rattle.rart_trie.specs.edits.InsertAllocations.{trie_put_allocates}
use Rattle.rart_trie.specs.edits.RemoveAllocations.{trie_remove_allocates}
use Rattle.rart_trie.specs.storages.Capacities.{previous_capacity}
use Rattle.rart_trie.specs.tries.Tree.{tree_put, tree_remove}
use Rattle.rart_trie.specs.tries.Trie.{Trie, node, capacity_in, children_in, edges_of, trie_lookup, value_of}
use Rattle.rart_trie.specs.tries.Trie.{with_records}
use Rattle.rart_trie.specs.edits.Slots.{HasCapacity, outcome_of}
use Rattle.rart_parts.specs.declared.error.TreeError.{TreeError}
use Rattle.rart_parts.specs.declared.error.TreeError.TheVariants.{Memory, Full}

-- the tree where a callback left w at k
abbrev pub tree_left : {V : Type 0} → List ℕ → Option V → Option (Trie V) → Option (Trie V)
tree_left k None t = t
tree_left k (Some w) t = Some (tree_put k w t)

-- the tree where it requested r
abbrev pub tree_updated : {V : Type 0} → List ℕ → SlotUpdate V → Option V → Option (Trie V) → Option (Trie V)
tree_updated k Keep w t = tree_left k w t
tree_updated k Remove None t = t
tree_updated k Remove (Some w) t = tree_remove k t
tree_updated k (Insert x) w t = Some (tree_put k x t)

-- an insertion at k may allocate, and there is no node there
abbrev pub PutAllocates : {V : Type 0} → List ℕ → Option (Trie V) → Type 0
PutAllocates k None = ⊥
PutAllocates k (Some t) = (trie_put_allocates k t ≡ true) × (trie_lookup k (with_records t) ≡ None)

-- a removal of k may allocate
abbrev pub RemoveAllocates : {V : Type 0} → List ℕ → Option (Trie V) → Type 0
RemoveAllocates k None = ⊥
RemoveAllocates k (Some t) = trie_remove_allocates None k t ≡ true

-- an insertion of a new key is refused for this reason
abbrev pub RefusesPut : {V : Type 0} → Bool → List ℕ → Option (Trie V) → TreeError → Type 0
RefusesPut full k t Full = full ≡ true
RefusesPut full k t Memory = (full ≡ false) × PutAllocates k t

-- an update of t at k, where w was left and r requested, gives this result and the tree u
abbrev pub EndsTree : {V : Type 0} → Bool → List ℕ → SlotUpdate V → Option V → Option (Trie V)
    → Result (Outcome V) (UpdateError V) → Option (Trie V) → Type 0
EndsTree full k r w t (Ok o) u = (u ≡ tree_updated k r w t) × (o ≡ outcome_of r w) × HasCapacity full o
EndsTree full k r w t (Err (Not_inserted e)) u = (u ≡ t) × (r ≡ Insert e.value) × (w ≡ None)
    × RefusesPut full k t e.error
EndsTree full k r w t (Err Not_removed) u = (u ≡ tree_left k w t) × (r ≡ Remove) × (w ≢ None) × RemoveAllocates k t

-- a node with this in the place of its value
abbrev pub node_holding : {V : Type 0} → Option V → Trie V → Trie V
node_holding v (node p old n cs) = node p v n cs

-- an update at a node with children
abbrev pub EndsHere : {V : Type 0} → Bool → SlotUpdate V → Option V → Trie V → Result (Outcome V) (UpdateError V)
    → Trie V → Type 0
EndsHere full Keep w t (Ok o) u = (u ≡ node_holding w t) × (o ≡ outcome_of Keep w)
EndsHere full Remove None t (Ok o) u = (u ≡ node_holding None t) × (o ≡ Absent)
EndsHere full Remove (Some w) t (Ok o) u = (u ≡ merged_if_needed (node_holding None t)) × (o ≡ Removed w)
EndsHere full (Insert x) w t (Ok o) u = (u ≡ node_holding (Some x) t) × (o ≡ outcome_of (Insert x) w)
    × HasCapacity full o
EndsHere full r w t (Err (Not_inserted e)) u = (u ≡ node_holding None t) × (r ≡ Insert e.value) × (w ≡ None)
    × (e.error ≡ Full) × (full ≡ true)
EndsHere full r w t (Err Not_removed) u = ⊥

-- an update at a leaf, which stays where nothing is answered: then its parent is to remove it
abbrev pub EndsLeaf : {V : Type 0} → SlotUpdate V → Option V → Trie V → Option (Outcome V) → Trie V → Type 0
EndsLeaf Keep (Some w) t o u = (o ≡ Some Kept) × (u ≡ node_holding (Some w) t)
EndsLeaf (Insert x) (Some w) t o u = (o ≡ Some (Replaced w)) × (u ≡ node_holding (Some x) t)
EndsLeaf Remove (Some w) t o u = (o ≡ None) × (u ≡ node_holding (Some w) t)
EndsLeaf r None t o u = ⊥

-- the leaf at a byte is removed, with this value
abbrev pub RemovesLeaf : {V : Type 0} → ℕ → Option V → Trie V → Result (Outcome V) (UpdateError V) → Trie V → Type 0
RemovesLeaf b w t (Ok (Removed v)) u = (Some v ≡ w) × (u ≡ without_child b t)
RemovesLeaf b w t (Err Not_removed) u = (u ≡ t) × (4 < capacity_in t)
    × (length (edges_of (children_in t)) ≤ previous_capacity (capacity_in t) + 1)
RemovesLeaf b w t result u = ⊥

-- a root that is a leaf is removed, with its value
abbrev pub RemovesRoot : {V : Type 0} → Option (Trie V) → Result (Outcome V) (UpdateError V) → Option (Trie V) → Type 0
RemovesRoot t (Ok (Removed v)) u = (Some v ≡ option_and_then value_of t) × (u ≡ None)
RemovesRoot t result u = ⊥
