-- What a sparse block owns, and what a `&` to it shows, at a header of the row H and items of the row T.
--     slot, slots           one slot at p, which holds an item or is room for one; and slots side by side
--     slots_seen            what a `Slots` shows: the items in the slots at p
use Rattle.std.specs.Prelude.{ℕ, ◌*◌, ◌^◌, List, [], ◌∷◌, length, Option, Some, None}
use Rattle.std.specs.Mem.{type_size}
use base.Fraction.{full_share}
use base.Fml.{Lft, Fml, ftrue, fsep, flt}
use mir.Syntax.{Ty}
use mir.Raw.{raw}
use denote.RattleType.{RattleType}
use denote.Memory.{lone}
use denote.RawPtr.{Ptr, room_for, lies_at, ◌+ₚ◌}
use denote.Sharing.{nothing, said, beside}
use denote.Struct.Lending.{lent_at}
use Rattle.rart_block.specs.Memory.{head_offset, places_offset, deed}

module _ (T : RattleType) where
  abbrev pub slot : Ptr → Option T.Denot → Fml
  slot p (Some x) = lies_at T full_share p x
  slot p None = room_for (raw (lone T.mir)) p

  abbrev pub slots : Ptr → List (Option T.Denot) → Fml
  slots p [] = ftrue
  slots p (o ∷ os) = fsep (slot p o) (slots (p +ₚ type_size T) os)

  abbrev pub slot_lent : Ptr → Option T.Denot → Lft → Fml
  slot_lent p (Some x) = lent_at T p x
  slot_lent p None = nothing

  abbrev pub slots_lent : Ptr → List (Option T.Denot) → Lft → Fml
  slots_lent p [] = nothing
  slots_lent p (o ∷ os) = beside (slot_lent p o) (slots_lent (p +ₚ type_size T) os)

  -- the slots take fewer than 2 ^ 63 bytes
  abbrev pub fit : List (Option T.Denot) → Fml
  fit os = flt (length os * type_size T) (2 ^ 63)

  abbrev pub slots_seen : Ptr → List (Option T.Denot) → Lft → Fml
  slots_seen p os = beside (said (fit os)) (slots_lent p os)

module _ (H T : RattleType) (w : ℕ) where
  abbrev pub sparse_owned : (Ty → Ptr → Fml) → Ptr → H.Denot → List (Option T.Denot) → Fml
  sparse_owned token p h os = fsep (lies_at H full_share (p +ₚ head_offset H T w) h)
      (fsep (fsep (fit T os) (slots T (p +ₚ places_offset H T w) os)) (deed H T w token p))

  abbrev pub sparse_shared : Ptr → H.Denot → List (Option T.Denot) → Lft → Fml
  sparse_shared p h os = beside (lent_at H (p +ₚ head_offset H T w) h) (slots_seen T (p +ₚ places_offset H T w) os)
