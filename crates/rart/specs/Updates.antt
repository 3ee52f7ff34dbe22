-- What an update of a tree returns, and the map after it.
use Rattle.std.specs.Prelude.{◌≡◌, ◌≢◌, ℕ, Bool, true, false, List, length, Option, Some, None, is_some, Result, Ok}
use Rattle.std.specs.Prelude.{Err}
use Rattle.std.specs.Borrow.{MutBor}
use Rattle.std.specs.Fn.{Once, FnOnceReturnsAtMut}
use Rattle.rart_keys.specs.SortedMap.{lookup}
use Rattle.rart_trie.specs.declared.slot.Outcome.{Outcome}
use Rattle.rart_trie.specs.declared.slot.Outcome.TheVariants.{Absent}
use Rattle.rart_trie.specs.declared.slot.Slot.{Slot}
use Rattle.rart_trie.specs.declared.slot.Slot.TheVariants.{Vacant, Occupied}
use Rattle.rart_trie.specs.declared.slot.SlotUpdate.{SlotUpdate}
use Rattle.rart_trie.specs.declared.slot.SlotUpdate.TheVariants.{Keep, Remove, Insert}
use Rattle.rart_trie.specs.declared.slot.UpdateError.{UpdateError}
use Rattle.rart_trie.specs.declared.slot.UpdateError.TheVariants.{Insert as Not_inserted, Remove as Not_removed}
use Rattle.rart_trie.specs.edits.Callbacks.{AnswersSo, AnswersReturning}
use Rattle.rart_trie.specs.edits.Slots.{outcome_of, slot_of}
use Rattle.rart_trie.specs.edits.Updates.{map_left, map_updated}
use Rattle.rart_parts.specs.declared.error.TreeError.TheVariants.{Memory}
use Rattle.rart.specs.Refusals.{MayRefuseRemove, MayRefuseInsert}
use Rattle.rart.specs.declared.tree.TheConstants.{MAX_PAIRS}
use Rattle.rart.specs.declared.tree.update.CallbackOutcome.{CallbackOutcome}
use Rattle.rart.specs.declared.tree.update.CallbackOutcome.TheVariants.{NotCloned, Failed, Answered}
use Rattle.rart.specs.declared.tree.update.TryUpdateError.{TryUpdateError}
use Rattle.rart.specs.declared.tree.update.TryUpdateError.TheVariants.{Callback, Insert as Try_not_inserted}
use Rattle.rart.specs.declared.tree.update.TryUpdateError.TheVariants.{Remove as Try_not_removed}

-- whether a slot was occupied, or is filled
abbrev pub is_touched : {V : Type 0} → SlotUpdate V → Option V → Bool
is_touched r (Some w) = true
is_touched Keep None = false
is_touched Remove None = false
is_touched (Insert x) None = true

-- a full map gets no new key
abbrev pub TakesNew : {V : Type 0} → SlotUpdate V → Option V → List (List ℕ × V) → Type 0
TakesNew (Insert x) None m = length m ≢ MAX_PAIRS
TakesNew r w m = Unit {0}

-- an update fails after the callback left w and requested r: the insertion of a new key, and the map is unchanged; or
-- a removal, and the key has the value in w
abbrev pub IsRefusal : {V : Type 0} → List ℕ → SlotUpdate V → Option V → List (List ℕ × V) → UpdateError V
    → List (List ℕ × V) → Type 0
IsRefusal key r w old (Not_inserted e) new = (r ≡ Insert e.value) × (w ≡ None) × MayRefuseInsert old key e.error
    × (new ≡ old)
IsRefusal key r w old Not_removed new = (r ≡ Remove) × (w ≢ None) × MayRefuseRemove old key Memory
    × (new ≡ map_left key w old)

-- the outcome of an update, and the map after it
abbrev pub EndsIn : {V : Type 0} → List ℕ → SlotUpdate V → Option V → List (List ℕ × V)
    → Result (Outcome V) (UpdateError V) → List (List ℕ × V) → Type 0
EndsIn key r w old (Ok o) new = (o ≡ outcome_of r w) × TakesNew r w old × (new ≡ map_updated key r w old)
EndsIn key r w old (Err e) new = IsRefusal key r w old e new

-- `update` after the callback left w and requested r: whether the key was or is stored, and the map after it
abbrev pub IsUpdate : {V : Type 0} → List ℕ → SlotUpdate V → Option V → List (List ℕ × V) → Result Bool (UpdateError V)
    → List (List ℕ × V) → Type 0
IsUpdate key r w old (Ok touched) new = (touched ≡ is_touched r w) × TakesNew r w old × (new ≡ map_updated key r w old)
IsUpdate key r w old (Err e) new = IsRefusal key r w old e new

-- `try_update` after the callback left w and returned a: as `update`, but with Err the map is unchanged
abbrev pub IsTryUpdate : {E V : Type 0} → List ℕ → Result (SlotUpdate V) E → Option V → List (List ℕ × V)
    → Result Bool (TryUpdateError E V) → List (List ℕ × V) → Type 0
IsTryUpdate key (Ok r) w old (Ok touched) new = IsUpdate key r w old (Ok touched) new
IsTryUpdate key (Ok r) w old (Err (Try_not_inserted e)) new = IsRefusal key r w old (Not_inserted e) new
IsTryUpdate key (Ok r) w old (Err Try_not_removed) new = (r ≡ Remove) × (w ≢ None) × MayRefuseRemove old key Memory
    × (new ≡ old)
IsTryUpdate key (Err e) w old (Err (Callback f)) new = (f ≡ e) × (new ≡ old)
IsTryUpdate key a w old result new = ⊥

-- `update` with the callback f, which was shown what is stored at the key
abbrev pub Updates : {F V : Type 0} → Once F (MutBor (Slot V) × Unit {0}) (SlotUpdate V × (MutBor (Slot V) × Unit {0}))
    → F → List ℕ → List (List ℕ × V) → Result Bool (UpdateError V) → List (List ℕ × V) → Type 0
Updates g f key old result new = AnswersSo g f (lookup key old) (λ r w. IsUpdate key r w old result new)

-- `Updates` with the outcome in place of whether the key was stored, of a callback that returns something more
abbrev pub UpdatesReturning : {F X V : Type 0}
    → Once F (MutBor (Slot V) × Unit {0}) ((SlotUpdate V × X) × (MutBor (Slot V) × Unit {0})) → F → List ℕ
    → List (List ℕ × V) → Result (Outcome V) (UpdateError V) × X → List (List ℕ × V) → Type 0
UpdatesReturning g f key old result new = AnswersReturning g f (lookup key old) result.1
    (λ r w. EndsIn key r w old result.0 new)

-- `try_update` with the callback f, where it was called
abbrev pub TriesUpdate : {F E V : Type 0}
    → Once F (MutBor (Slot V) × Unit {0}) (Result (SlotUpdate V) E × (MutBor (Slot V) × Unit {0})) → F → List ℕ
    → List (List ℕ × V) → Result Bool (TryUpdateError E V) → List (List ℕ × V) → Type 0
TriesUpdate g f key old result new = AnswersSo g f (lookup key old) (λ a w. IsTryUpdate key a w old result new)

-- such a callback, shown o, keeps an occupied slot occupied and a vacant one vacant where it doesn't fail
abbrev pub KeepsSlotIfOk : {F E V : Type 0} → Once F (MutBor (Slot V) × Unit {0}) (Result (SlotUpdate V) E
    × (MutBor (Slot V) × Unit {0})) → F → Option V → Type 0
KeepsSlotIfOk {F} {E} {V} g f o = (r : SlotUpdate V) (w : Option V)
    → FnOnceReturnsAtMut g f (slot_of o) (Ok r) (slot_of w)
    → is_some w ≡ is_some o

-- what an outcome answers
abbrev pub touched_in : {V : Type 0} → Outcome V → Bool
touched_in Absent = false
touched_in o = true

-- f, shown the slot s, was tried: it requested r, with this outcome, and left s'; where f failed or wasn't called the
-- slot is as before. It wasn't called only at a value whose clone may fail
abbrev pub IsAttempt : {F E V : Type 0} → (V → Type 0)
    → Once F (MutBor (Slot V) × Unit {0}) (Result (SlotUpdate V) E × (MutBor (Slot V) × Unit {0})) → F → Slot V
    → SlotUpdate V → CallbackOutcome V E → Slot V → Type 0
IsAttempt {F} {E} {V} sure g f s r NotCloned s' = (r ≡ Keep) × (s' ≡ s) × ((v : V) × (s ≡ Occupied v) × (sure v → ⊥))
IsAttempt {F} {E} {V} sure g f s r (Failed e) s' = (r ≡ Keep) × (s' ≡ s)
    × ((w : Option V) × FnOnceReturnsAtMut g f s (Err e) (slot_of w))
IsAttempt {F} {E} {V} sure g f s r (Answered o) s' = FnOnceReturnsAtMut g f s (Ok r) s' × (slot_of o ≡ s)

-- an update by such an attempt, of what is stored at the key
pub record Attempts {F E V : Type 0} (sure : V → Type 0)
    (g : Once F (MutBor (Slot V) × Unit {0}) (Result (SlotUpdate V) E × (MutBor (Slot V) × Unit {0}))) (f : F)
    (key : List ℕ) (old : List (List ℕ × V)) (outcome : CallbackOutcome V E)
    (result : Result (Outcome V) (UpdateError V)) (new : List (List ℕ × V)) : Type 0 where
  pub request : SlotUpdate V
  pub left : Option V
  pub attempt : IsAttempt sure g f (slot_of (lookup key old)) request outcome (slot_of left)
  pub ends : EndsIn key request left old result new

-- what a callback leaves that writes this value where the slot is occupied
abbrev pub written_slot : {V : Type 0} → Option V → Slot V → Slot V
written_slot w Vacant = Vacant
written_slot None (Occupied v) = Occupied v
written_slot (Some w) (Occupied v) = Occupied w

-- `written_slot` for what is stored at the key
abbrev pub left_by : {V : Type 0} → Option V → Option V → Option V
left_by w None = None
left_by None (Some v) = Some v
left_by (Some w) (Some v) = Some w
