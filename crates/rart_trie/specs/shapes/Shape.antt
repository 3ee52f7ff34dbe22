-- The shape of a set of keys: one record for each branch point, and no other.
use Rattle.std.specs.Prelude.{ℕ, ◌≡◌, nat_le, Bool, ◌||◌, ◌==◌, List, [], ◌∷◌, length, Option, Some, None}
use Rattle.std.specs.Prelude.{if◌then◌else◌}
use Rattle.std.specs.List.{filter_map, list_any}
use Rattle.rart_keys.specs.ByteStrings.{bytes_eq, byte_after}
use Rattle.rart_keys.specs.SortedMap.{IsAscending, lookup}

-- x, unless it is the first already
abbrev pub with_first : ℕ → List ℕ → List ℕ
with_first x [] = x ∷ []
with_first x (y ∷ ys) = if x == y then y ∷ ys else x ∷ y ∷ ys

-- each of ascending numbers once
abbrev pub without_repeats : List ℕ → List ℕ
without_repeats [] = []
without_repeats (x ∷ xs) = with_first x (without_repeats xs)

-- the bytes b for which p·b begins a key, ascending, as the keys are
abbrev pub next_bytes : List (List ℕ) → List ℕ → List ℕ
next_bytes s p = without_repeats (filter_map (byte_after p) s)

-- p is a key
abbrev pub contains_key : List (List ℕ) → List ℕ → Bool
contains_key s p = list_any (λ k. bytes_eq k p) s

-- how many children a node with n can hold
abbrev pub capacity_of : ℕ → ℕ
capacity_of n = if nat_le n 0 then 0 else if nat_le n 4 then 4 else if nat_le n 16 then 16 else if nat_le n 48 then 48
    else 256

-- what is recorded of a node: whether it holds a value, its edge bytes, and its capacity
pub record NodeRecord : Type 0 where
  pub holds_value : Bool
  pub edges : List ℕ
  pub capacity : ℕ

-- the record of a string that is a key or not, and after which the keys continue by these bytes
abbrev pub record_from : Bool → List ℕ → Option NodeRecord
record_from h bs = if h || nat_le 2 (length bs)
    then Some (record { holds_value = h; edges = bs; capacity = capacity_of (length bs) }) else None

-- a branch point is a key, or keys continue after it by two bytes or more
abbrev pub record_at : List (List ℕ) → List ℕ → Option NodeRecord
record_at s p = record_from (contains_key s p) (next_bytes s p)

-- rs has the record of each branch point of s, once, and no other
pub record HasShape (s : List (List ℕ)) (rs : List (List ℕ × NodeRecord)) : Type 0 where
  pub ascending : IsAscending rs
  pub each : (p : List ℕ) → lookup p rs ≡ record_at s p
