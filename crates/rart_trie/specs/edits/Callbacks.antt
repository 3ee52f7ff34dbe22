-- What the callback of an update requires, and what it was called with: the slot of what is stored at a key.
use Rattle.std.specs.Prelude.{◌≡◌, Option, is_some}
use Rattle.std.specs.Borrow.{MutBor}
use Rattle.std.specs.Fn.{Once, FnOnceReturnsAtMut}
use Rattle.rart_trie.specs.declared.slot.Slot.{Slot}
use Rattle.rart_trie.specs.declared.slot.SlotUpdate.{SlotUpdate}
use Rattle.rart_trie.specs.edits.Slots.{slot_of}

-- called with o, f keeps an occupied slot occupied and a vacant one vacant
abbrev pub KeepsSlot : {F V : Type 0} → Once F (MutBor (Slot V) × Unit {0}) (SlotUpdate V × (MutBor (Slot V)
    × Unit {0}))
    → F → Option V → Type 0
KeepsSlot {F} {V} g f o = (r : SlotUpdate V) (w : Option V) → FnOnceReturnsAtMut g f (slot_of o) r (slot_of w)
    → is_some w ≡ is_some o

-- `KeepsSlot` for a callback that returns the requested update and a second result
abbrev pub KeepsSlotReturning : {F X V : Type 0}
    → Once F (MutBor (Slot V) × Unit {0}) ((SlotUpdate V × X) × (MutBor (Slot V) × Unit {0})) → F → Option V → Type 0
KeepsSlotReturning {F} {X} {V} g f o = (r : SlotUpdate V) (x : X) (w : Option V)
    → FnOnceReturnsAtMut g f (slot_of o) (r, x) (slot_of w) → is_some w ≡ is_some o

-- f was called once with o: it returned some a and left some w, of which E holds
abbrev pub AnswersSo : {F A V : Type 0} → Once F (MutBor (Slot V) × Unit {0}) (A × (MutBor (Slot V) × Unit {0})) → F
    → Option V → (A → Option V → Type 0) → Type 0
AnswersSo {F} {A} {V} g f o E = (a : A) × (w : Option V) × FnOnceReturnsAtMut g f (slot_of o) a (slot_of w) × E a w

-- `AnswersSo` for a callback that returned x too
abbrev pub AnswersReturning : {F X V : Type 0} → Once F (MutBor (Slot V) × Unit {0}) ((SlotUpdate V × X)
    × (MutBor (Slot V) × Unit {0})) → F → Option V → X → (SlotUpdate V → Option V → Type 0) → Type 0
AnswersReturning {F} {X} {V} g f o x E = (r : SlotUpdate V) × (w : Option V)
    × FnOnceReturnsAtMut g f (slot_of o) (r, x) (slot_of w) × E r w
