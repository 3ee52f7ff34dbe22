-- A bound on bytes.
use Rattle.std.specs.Prelude.{ℕ, ◌<◌, ◌≤◌, List, slice_index, Option, Some, None}

-- every byte is below the bound that is no byte
abbrev pub bound_of : Option ℕ → ℕ
bound_of None = 256
bound_of (Some b) = b

-- p is the first of n places whose key is not below a bound, or n where there is none
abbrev pub IsFirstNotBelow : List ℕ → ℕ → ℕ → ℕ → Type 0
IsFirstNotBelow keys n bound p = (p ≤ n) × ((k : ℕ) → k < p → slice_index keys k < bound)
    × (p < n → bound ≤ slice_index keys p)
