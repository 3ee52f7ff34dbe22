-- Children in slots without gaps, the byte of each, and an index from bytes to slots.
use Rattle.std.specs.Prelude.{◌≡◌, ℕ, ◌<◌, ◌≤◌, List, [], ◌∷◌, length, Option, Some, None, map, slice_index}
use Rattle.std.specs.Prelude.{slice_index_or}

-- places for as many bytes as there are slots, each byte that the index sends to a slot is the byte of that slot, which
-- has a child, and the index sends the byte of each child to its slot
pub record IsDense {X : Type 0} (width : ℕ) (at : List (Option ℕ)) (bytes : List ℕ) (children : List X) : Type 0 where
  pub whole : length at ≡ 256
  pub full : length bytes ≡ width
  pub narrow : width ≤ 255
  pub few : length children ≤ width
  pub has_child : (k p : ℕ) → slice_index_or at k None ≡ Some p → p < length children
  pub has_byte : (k p : ℕ) → slice_index_or at k None ≡ Some p → slice_index bytes p ≡ k
  pub is_named : (p : ℕ) → p < length children → slice_index_or at (slice_index bytes p) None ≡ Some p

-- the slots of an index are below a number
abbrev pub AreSlotsBelow : ℕ → List (ℕ × ℕ) → Type 0
AreSlotsBelow n [] = Unit {0}
AreSlotsBelow n (e ∷ es) = (e.1 < n) × AreSlotsBelow n es

-- children as places, all of which have one
abbrev pub filled : {X : Type 0} → List X → List (Option X)
filled vs = map Some vs
