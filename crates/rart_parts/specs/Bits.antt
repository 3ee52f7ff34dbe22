-- Bits of a number, bits of a row of words, and the set of positions that a test of positions is.
use Rattle.std.specs.Prelude.{◌≡◌, ℕ, zero, suc, ◌<◌, ◌/◌, ◌%◌, Bool, true, false, ◌==◌, nat_lt, ◌&&◌, List, []}
use Rattle.std.specs.Prelude.{◌∷◌, map, slice_index, Option, MatchOption, if◌then◌else◌}
use Rattle.std.specs.Int.{bit_at}

-- whether bit i of n is set
abbrev pub has_bit : ℕ → ℕ → Bool
has_bit n i = bit_at n i == 1

-- whether bit `k mod width` of word `k div width` is set
abbrev pub words_have : {W : Type 0} → ℕ → (W → ℕ) → List W → ℕ → Bool
words_have width number ws k = has_bit (slice_index (map number ws) (k / width)) (k % width)

-- the positions of the set among `count` positions from `from` on, ascending
abbrev pub members_from : (ℕ → Bool) → ℕ → ℕ → List ℕ
members_from has from zero = []
members_from has from (suc count) = if has from then from ∷ members_from has (suc from) count
    else members_from has (suc from) count

-- the positions of the set below a capacity, ascending
abbrev pub members : (ℕ → Bool) → ℕ → List ℕ
members has capacity = members_from has 0 capacity

-- those of a list that are above p, in their order
abbrev pub positions_above : ℕ → List ℕ → List ℕ
positions_above p [] = []
positions_above p (k ∷ ks) = if nat_lt p k then k ∷ positions_above p ks else positions_above p ks

-- the answer is the least position of the set below a capacity, and None where the set has none
abbrev pub IsFirst : (ℕ → Bool) → ℕ → Option ℕ → Type 0
IsFirst has capacity answer = MatchOption answer ((k : ℕ) → k < capacity → has k ≡ false)
    (λ p. (p < capacity) × (has p ≡ true) × ((k : ℕ) → k < p → has k ≡ false))

-- the answer is the greatest position of the set below a capacity, and None where the set has none
abbrev pub IsLast : (ℕ → Bool) → ℕ → Option ℕ → Type 0
IsLast has capacity answer = MatchOption answer ((k : ℕ) → k < capacity → has k ≡ false)
    (λ p. (p < capacity) × (has p ≡ true) × ((k : ℕ) → p < k → k < capacity → has k ≡ false))

-- bit k of the number says whether the set has position k, for each k below 128
abbrev pub IsMask : (ℕ → Bool) → ℕ → ℕ → Type 0
IsMask has capacity mask = (k : ℕ) → k < 128 → has_bit mask k ≡ (nat_lt k capacity && has k)
