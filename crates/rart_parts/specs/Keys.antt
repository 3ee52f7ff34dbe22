-- A byte among the keys of a node.
use Rattle.std.specs.Prelude.{◌≡◌, ◌≢◌, ℕ, ◌<◌, ◌≤◌, ◌==◌, Bool, not, ◌||◌, ◌&&◌, List, slice_index, Option}
use Rattle.std.specs.Prelude.{MatchOption}

-- the first n keys ascend strictly
abbrev pub IsAscendingBelow : List ℕ → ℕ → Type 0
IsAscendingBelow keys n = (i j : ℕ) → i < j → j < n → slice_index keys i < slice_index keys j

-- the answer is the first place of a key among the first n, and None where it is not among them
abbrev pub IsPlaceOf : List ℕ → ℕ → ℕ → Option ℕ → Type 0
IsPlaceOf keys n key answer = MatchOption answer ((k : ℕ) → k < n → slice_index keys k ≢ key)
    (λ p. (p < n) × (slice_index keys p ≡ key) × ((k : ℕ) → k < p → slice_index keys k ≢ key))

-- p is the first of n places whose key is above, or n where there is none
abbrev pub IsFirstAbove : List ℕ → ℕ → ℕ → ℕ → Type 0
IsFirstAbove keys n key p = (p ≤ n) × ((k : ℕ) → k < p → slice_index keys k ≤ key) × (p < n → key < slice_index keys p)

-- place p holds the key, and for key 255 the set of used places has it too
abbrev pub is_held : List ℕ → ℕ → (ℕ → Bool) → ℕ → Bool
is_held keys key used p = (slice_index keys p == key) && (not (key == 255) || used p)
