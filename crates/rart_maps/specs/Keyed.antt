-- Keys in slots, in no order, beside children.
use Rattle.std.specs.Prelude.{◌≡◌, ℕ, ◌<◌, ◌≤◌, true, false, List, [], ◌∷◌, length, Option, Some, None, slice_index}
use Rattle.rart_parts.specs.Entries.{sorted_entries}
use Rattle.rart_parts.specs.Places.{is_used, numbered_values}

-- the children with their keys, in the order of their slots
abbrev pub with_keys : {X : Type 0} → List ℕ → List (Option X) → List (ℕ × X)
with_keys [] os = []
with_keys (k ∷ ks) [] = []
with_keys (k ∷ ks) (None ∷ os) = with_keys ks os
with_keys (k ∷ ks) (Some x ∷ os) = (k, x) ∷ with_keys ks os

-- a key for each slot, no key in two used slots, and 255 in each free one
pub record IsSlots {X : Type 0} (keys : List ℕ) (os : List (Option X)) : Type 0 where
  pub whole : length keys ≡ length os
  pub apart : (i j : ℕ) → is_used os i ≡ true → is_used os j ≡ true → slice_index keys i ≡ slice_index keys j → i ≡ j
  pub free : (i : ℕ) → i < length os → is_used os i ≡ false → slice_index keys i ≡ 255

-- and the number of children is kept
pub record IsKeyed {X : Type 0} (width : ℕ) (keys : List ℕ) (os : List (Option X)) (count : ℕ) : Type 0 where
  pub full : length os ≡ width
  pub narrow : width ≤ 255
  pub slots : IsSlots keys os
  pub counted : count ≡ length (numbered_values 0 os)
  pub entries : count ≡ length (sorted_entries (with_keys keys os))
