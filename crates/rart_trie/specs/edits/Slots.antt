-- The slot that an update shows of a key, and the result of the update.
use Rattle.std.specs.Prelude.{◌≡◌, ◌+◌, ℕ, Bool, false, max, Option, Some, None, Result, Ok}
use Rattle.rart_trie.specs.declared.slot.Outcome.{Outcome}
use Rattle.rart_trie.specs.declared.slot.Outcome.TheVariants.{Absent, New, Kept, Replaced, Removed}
use Rattle.rart_trie.specs.declared.slot.Slot.{Slot}
use Rattle.rart_trie.specs.declared.slot.Slot.TheVariants.{Vacant, Occupied}
use Rattle.rart_trie.specs.declared.slot.SlotUpdate.{SlotUpdate}
use Rattle.rart_trie.specs.declared.slot.SlotUpdate.TheVariants.{Keep, Remove, Insert}
use Rattle.rart_trie.specs.declared.slot.UpdateError.{UpdateError}

-- the slot that shows what is stored at a key
abbrev pub slot_of : {V : Type 0} → Option V → Slot V
slot_of None = Vacant
slot_of (Some v) = Occupied v

-- the result of an update where w was left and r is requested
abbrev pub outcome_of : {V : Type 0} → SlotUpdate V → Option V → Outcome V
outcome_of Keep None = Absent
outcome_of Remove None = Absent
outcome_of (Insert x) None = New
outcome_of Keep (Some w) = Kept
outcome_of Remove (Some w) = Removed w
outcome_of (Insert x) (Some w) = Replaced w

-- a map that is as large as a map can be takes no new key
abbrev pub HasCapacity : {V : Type 0} → Bool → Outcome V → Type 0
HasCapacity full New = full ≡ false
HasCapacity full o = Unit {0}

-- how many pairs there are before and after
abbrev pub CountsPairs : {V : Type 0} → Result (Outcome V) (UpdateError V) → ℕ → ℕ → Type 0
CountsPairs (Ok New) old new = new ≡ old + 1
CountsPairs (Ok (Removed w)) old new = new + 1 ≡ old
CountsPairs result old new = new ≡ old

-- the length of the longest key is at most this, where it was n before and the key's is m
abbrev pub longest_after : {V : Type 0} → Result (Outcome V) (UpdateError V) → ℕ → ℕ → ℕ
longest_after (Ok New) m n = max n m
longest_after result m n = n
