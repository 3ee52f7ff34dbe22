-- A block at its parameters: the header, the items, and how many places it has.
use Prim.Native.Nat.{ℕ}
use mathlib.Core.List.{[], ◌∷◌}
use mir.Syntax.{Args, a_type, a_number, w64}
use mir.Val.{Fits}
use denote.RattleType.{RattleType}
use denote.Param.{Types, param, number, layouts, value_of}
use denote.Param.Laws.{Laws}
use Rattle.rart_block.specs.contracts.raw.RawBlock as C
use Rattle.rart_block.specs.Memory.{head_offset, places_offset}

pub record Parts : Type 2 where
  pub head : RattleType
  pub head_laws : Laws head
  pub item : RattleType
  pub item_laws : Laws item
  pub width : ℕ
  pub fits : Fits w64 width

module _ (P : Parts) where
  abbrev pub types : Types (a_type ∷ a_type ∷ a_number ∷ [])
  types = (P.head, (P.item, (number P.width, tt)))

  abbrev pub args : Args
  args = layouts (a_type ∷ a_type ∷ a_number ∷ []) types

  abbrev pub H : RattleType
  H = param 0 P.head

  abbrev pub X : RattleType
  X = param 1 P.item

  abbrev pub W : RattleType
  W = param 2 (number P.width)

  abbrev pub w : ℕ
  w = value_of W

  abbrev pub Block : RattleType
  Block = C.the_row H X W

  abbrev pub Value : Type 0
  Value = Block.Denot

  -- where the header and the places begin
  abbrev pub at_head : ℕ
  at_head = head_offset H X w

  abbrev pub at_places : ℕ
  at_places = places_offset H X w
