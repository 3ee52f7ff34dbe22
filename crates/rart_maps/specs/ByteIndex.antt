-- An index from bytes to slots as a row of numbers, 255 where a byte has no slot, beside the set of the bytes that have
-- one.
use Rattle.std.specs.Prelude.{◌≡◌, ℕ, ◌<◌, ◌==◌, if◌then◌else◌, List, [], ◌∷◌, map, length, Option, Some, None}
use Rattle.std.specs.Prelude.{slice_index}
use Rattle.rart_parts.specs.Bits.{words_have}
use Rattle.rart_parts.specs.Places.{Agrees}

-- the slot that a number of the row is
abbrev pub slot_of : ℕ → Option ℕ
slot_of s = if s == 255 then None else Some s

-- a number for each byte, and the set has the bytes that have a slot
pub record IsByteIndex (words slots : List ℕ) : Type 0 where
  pub whole : length slots ≡ 256
  pub agrees : Agrees 256 (words_have 64 (λ w. w) words) (map slot_of slots)

-- bytes, each with what the row has at it
abbrev pub with_slots : List ℕ → List ℕ → List (ℕ × ℕ)
with_slots slots [] = []
with_slots slots (b ∷ bs) = (b, slice_index slots b) ∷ with_slots slots bs

-- each is below 256
abbrev pub AreBytes : List ℕ → Type 0
AreBytes [] = Unit {0}
AreBytes (b ∷ bs) = (b < 256) × AreBytes bs
