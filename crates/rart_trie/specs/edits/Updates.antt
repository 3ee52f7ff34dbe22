-- What an update of a map ends as.
use Rattle.std.specs.Prelude.{ℕ, ◌≡◌, ◌≢◌, List, Bool, true, false, Option, Some, None, Result, Ok, Err}
use Rattle.std.specs.Borrow.{MutBor}
use Rattle.std.specs.Fn.{Once}
use Rattle.rart_keys.specs.SortedMap.{keys_of, lookup, put, without}
use Rattle.rart_trie.specs.declared.slot.Outcome.{Outcome}
use Rattle.rart_trie.specs.declared.slot.Slot.{Slot}
use Rattle.rart_trie.specs.declared.slot.SlotUpdate.{SlotUpdate}
use Rattle.rart_trie.specs.declared.slot.SlotUpdate.TheVariants.{Keep, Remove, Insert}
use Rattle.rart_trie.specs.declared.slot.UpdateError.{UpdateError}
use Rattle.rart_trie.specs.declared.slot.UpdateError.TheVariants.{Insert as Not_inserted, Remove as Not_removed}
use Rattle.rart_trie.specs.edits.InsertAllocations.{insert_allocates}
use Rattle.rart_trie.specs.edits.RemoveAllocations.{remove_allocates}
use Rattle.rart_trie.specs.edits.Callbacks.{AnswersReturning}
use Rattle.rart_trie.specs.edits.Slots.{HasCapacity, outcome_of}
use Rattle.rart_parts.specs.declared.error.TreeError.{TreeError}
use Rattle.rart_parts.specs.declared.error.TreeError.TheVariants.{Memory, Full}

-- the pairs where a callback left w at k
abbrev pub map_left : {V : Type 0} → List ℕ → Option V → List (List ℕ × V) → List (List ℕ × V)
map_left k None m = m
map_left k (Some w) m = put k w m

-- the pairs where it requested r
abbrev pub map_updated : {V : Type 0} → List ℕ → SlotUpdate V → Option V → List (List ℕ × V) → List (List ℕ × V)
map_updated k Keep w m = map_left k w m
map_updated k Remove None m = m
map_updated k Remove (Some w) m = without k m
map_updated k (Insert x) w m = put k x m

-- an insertion of a new key is refused for this reason
abbrev pub RefusesNew : {V : Type 0} → Bool → List ℕ → List (List ℕ × V) → TreeError → Type 0
RefusesNew full k m Full = full ≡ true
RefusesNew full k m Memory = (full ≡ false) × (insert_allocates (keys_of m) k ≡ true)

-- an update of m at k, where w was left and r requested, gives this result and the pairs n
abbrev pub EndsMap : {V : Type 0} → Bool → List ℕ → SlotUpdate V → Option V → List (List ℕ × V)
    → Result (Outcome V) (UpdateError V) → List (List ℕ × V) → Type 0
EndsMap full k r w m (Ok o) n = (n ≡ map_updated k r w m) × (o ≡ outcome_of r w) × HasCapacity full o
EndsMap full k r w m (Err (Not_inserted e)) n = (n ≡ m) × (r ≡ Insert e.value) × (w ≡ None)
    × RefusesNew full k m e.error
EndsMap full k r w m (Err Not_removed) n = (n ≡ map_left k w m) × (r ≡ Remove) × (w ≢ None)
    × (remove_allocates (keys_of m) k ≡ true)

-- `EndsMap` for an update with the callback f, which returns something more
abbrev pub UpdatesMap : {F X V : Type 0}
    → Once F (MutBor (Slot V) × Unit {0}) ((SlotUpdate V × X) × (MutBor (Slot V) × Unit {0})) → F → Bool → List ℕ
    → List (List ℕ × V) → Result (Outcome V) (UpdateError V) × X → List (List ℕ × V) → Type 0
UpdatesMap g f full k m res n = AnswersReturning g f (lookup k m) res.1 (λ r w. EndsMap full k r w m res.0 n)
