-- The keys of at most four children that are in a block of their own.
use Rattle.std.specs.Prelude.{◌≡◌, ℕ, ◌≤◌, ◌<◌, List, [], ◌∷◌, Some, get_or, length, slice_set}
use Rattle.rart_parts.specs.Entries.{child_at, replaced_at}
use Rattle.rart_block.specs.Contents.{Contents}
use Rattle.rart_parts.specs.Keys.{IsAscendingBelow}
use Rattle.rart_maps.specs.SortedKeyed.{IsPadded}

-- the first n of four keys ascend, and the others are 255
pub record IsFourKeys (keys : List ℕ) (n : ℕ) : Type 0 where
  pub full : length keys ≡ 4
  pub few : n ≤ 4
  pub ascends : IsAscendingBelow keys n
  pub padded : IsPadded keys n 4

-- each child with its key; a child without a key is at byte 0
abbrev pub keyed : {X : Type 0} → List ℕ → List X → List (ℕ × X)
keyed keys [] = []
keyed [] (x ∷ xs) = (0, x) ∷ keyed [] xs
keyed (k ∷ keys) (x ∷ xs) = (k, x) ∷ keyed keys xs

-- the children in a block, each with its key
abbrev pub four_entries : {E K N : Type 0} → List ℕ → Contents E K N → List (ℕ × N)
four_entries keys children = keyed keys children.items

-- there are as many keys as children
abbrev pub HasKeyEach : {E K N : Type 0} → List ℕ → Contents E K N → Type 0
HasKeyEach keys children = length keys ≡ length children.items

-- the child at a byte is at place p, and so is any other that is put there
abbrev pub IsChildPlace : {E K N : Type 0} → List ℕ → Contents E K N → ℕ → ℕ → Type 0
IsChildPlace {E} {K} {N} keys children key p = (p < length children.items)
    × ((x : N) → x ≡ get_or children.items p x → child_at key (four_entries keys children) ≡ Some x)
    × ((w : N) → keyed keys (slice_set children.items p w) ≡ replaced_at key w (four_entries keys children))
