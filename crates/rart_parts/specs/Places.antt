-- Places, each with a value or without.
use Rattle.std.specs.Prelude.{◌≡◌, ℕ, zero, suc, ◌<◌, ◌≤◌, ◌^◌, Bool, true, false, List, [], ◌∷◌, length, Option, None}
use Rattle.std.specs.Prelude.{Some, MatchOption, slice_index_or, slice_set}
use Rattle.rart_parts.specs.Bits.{IsLast}

abbrev pub is_filled : {X : Type 0} → Option X → Bool
is_filled None = false
is_filled (Some x) = true

-- whether place i has a value
abbrev pub is_used : {X : Type 0} → List (Option X) → ℕ → Bool
is_used [] i = false
is_used (o ∷ os) zero = is_filled o
is_used (o ∷ os) (suc i) = is_used os i

-- the values, in the order of their places
abbrev pub values_in : {X : Type 0} → List (Option X) → List X
values_in [] = []
values_in (None ∷ os) = values_in os
values_in (Some x ∷ os) = x ∷ values_in os

-- the values with the numbers of their places, the first place being number n
abbrev pub numbered_values : {X : Type 0} → ℕ → List (Option X) → List (ℕ × X)
numbered_values n [] = []
numbered_values n (None ∷ os) = numbered_values (suc n) os
numbered_values n (Some x ∷ os) = (n, x) ∷ numbered_values (suc n) os

-- the answer is the value at the greatest used place
abbrev pub GivesLast : {X : Type 0} → ℕ → List (Option X) → Option X → Type 0
GivesLast width os answer = MatchOption answer (IsLast (is_used os) width None)
    (λ x. (p : ℕ) × (IsLast (is_used os) width (Some p) × (slice_index_or os p None ≡ Some x)))

-- that value was taken out
abbrev pub PopsLast : {X : Type 0} → ℕ → List (Option X) → Option X → List (Option X) → Type 0
PopsLast width old answer new = MatchOption answer (IsLast (is_used old) width None × (new ≡ old))
    (λ x. (p : ℕ) × (IsLast (is_used old) width (Some p) × (slice_index_or old p None ≡ Some x)
    × (new ≡ slice_set old p None)))

-- a test of positions says of each one whether that place has a value
abbrev pub Agrees : {X : Type 0} → ℕ → (ℕ → Bool) → List (Option X) → Type 0
Agrees capacity has os = (i : ℕ) → i < capacity → has i ≡ is_used os i

-- a set with any position is that of the used places, and an empty one says nothing of them
abbrev pub AgreesIfAny : {X : Type 0} → ℕ → (ℕ → Bool) → List (Option X) → Type 0
AgreesIfAny capacity has os = (k : ℕ) → k < capacity → has k ≡ true → Agrees capacity has os

-- `width` places, a set that can hold them and whose positions fit a machine's number, and the set is that of the used
-- places if it has any
pub record IsBitArray {X : Type 0} (width capacity : ℕ) (has : ℕ → Bool) (os : List (Option X)) : Type 0 where
  pub full : length os ≡ width
  pub covers : width ≤ capacity
  pub fits : capacity < 2 ^ 64
  pub agrees : AgreesIfAny capacity has os
