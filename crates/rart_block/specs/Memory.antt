-- What a block owns, and what a `&` to it shows, at a header of the row H and items of the row T.
use Rattle.std.specs.Prelude.{ℕ, ◌+◌, Bool, true, false, List, [], length}
use base.Fraction.{full_share}
use base.Fml.{Lft, Fml, ftrue, fsep, fwand}
use mir.Syntax.{Ty, ty_array, ty_struct, tcons, tnil}
use mir.Raw.{raw}
use prog.Memory.{size, align, up}
use denote.RattleType.{RattleType}
use denote.Memory.{lone}
use denote.Param.{value_of}
use denote.Sharing.{nothing, beside}
use denote.RawPtr.{Ptr, room_for, lies_at, ◌+ₚ◌}
use denote.Struct.Lending.{lent_at}
use Rattle.std_alloc.specs.Vec.Ownership.{lodged, vec_shares}
use Rattle.std.specs.contracts.impls.GlobalAllocator.TheImpl.{ghosts}

-- the right to free an allocation of `Global`; every `Global` has the same
abbrev pub global_token : Ty → Ptr → Fml
global_token τ p = ghosts.dealloc_token (record { memory = record { seal = tt } }) τ p

module _ (H T : RattleType) (w : ℕ) where
  -- `Layout<H, T, w>`
  abbrev pub layout_type : Ty
  layout_type = raw (ty_struct [] (tcons (lone H.mir) (tcons (ty_array (lone T.mir) w) tnil)))

  abbrev pub head_offset : ℕ
  head_offset = up (align (lone H.mir)) 0

  abbrev pub places_offset : ℕ
  places_offset = up (align (lone T.mir)) (head_offset + size (lone H.mir))

  -- the two fields of a block at p, with nothing in them
  abbrev pub empty_fields : Ptr → Fml
  empty_fields p = fsep (room_for (raw (lone H.mir)) (p +ₚ head_offset))
      (room_for (raw (ty_array (lone T.mir) w)) (p +ₚ places_offset))

  -- the right to free the block at p once its fields are empty
  abbrev pub deed : (Ty → Ptr → Fml) → Ptr → Fml
  deed token p = fsep (token layout_type p) (fwand (empty_fields p) (room_for layout_type p))

  -- the places of a block at p, unless they are held apart
  abbrev pub places_owned : Ptr → List T.Denot → Bool → Fml
  places_owned p xs true = ftrue
  places_owned p xs false = lodged T (p +ₚ places_offset) (length xs) w xs

  abbrev pub block_owned : (Ty → Ptr → Fml) → Ptr → H.Denot → List T.Denot → Bool → Fml
  block_owned token p h xs apart = fsep (lies_at H full_share (p +ₚ head_offset) h)
      (fsep (places_owned p xs apart) (deed token p))

  abbrev pub places_shared : Ptr → List T.Denot → Bool → Lft → Fml
  places_shared p xs true = nothing
  places_shared p xs false = vec_shares T (p +ₚ places_offset) (length xs) w xs

  abbrev pub block_shared : Ptr → H.Denot → List T.Denot → Bool → Lft → Fml
  block_shared p h xs apart = beside (lent_at H (p +ₚ head_offset) h) (places_shared p xs apart)

-- where the places of the block at p lie
abbrev pub places_in : (H T W : RattleType) → Ptr → Ptr
places_in H T W p = p +ₚ places_offset H T (value_of W)
