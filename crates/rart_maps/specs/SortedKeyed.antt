-- What is true of the two columns of a sorted mapping.
use Rattle.std.specs.Prelude.{◌≡◌, ℕ, ◌<◌, ◌≤◌, List, length, slice_index}
use Rattle.std.specs.List.{zip}
use Rattle.rart_parts.specs.Entries.{BytesAscend}

-- the keys from place n on are 255
abbrev pub IsPadded : List ℕ → ℕ → ℕ → Type 0
IsPadded keys n width = (k : ℕ) → n ≤ k → k < width → slice_index keys k ≡ 255

-- as many keys as the width, no more children than keys, capacity for as many, the keys of the children ascend, and the
-- others are 255
pub record IsSortedKeyed {X : Type 0} (width : ℕ) (keys : List ℕ) (children : List X) (capacity : ℕ) : Type 0 where
  pub full : length keys ≡ width
  pub few : length children ≤ width
  pub reserved : width ≤ capacity
  pub narrow : width ≤ 255
  pub ascends : BytesAscend (zip keys children)
  pub padded : IsPadded keys (length children) width
