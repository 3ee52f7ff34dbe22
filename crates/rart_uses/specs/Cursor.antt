-- How far a cursor over a map is.
use Rattle.std.specs.Prelude.{◌≡◌, ◌∷◌, [], ℕ, Bool, true, false, List, Option, Some, None, IfSome}
use Rattle.std.specs.declared.ops.Bound.{Bound}
use Rattle.std.specs.declared.ops.Bound.TheVariants.{Excluded, Unbounded}
use Rattle.rart_keys.specs.Ranges.{between}

-- past the last key, or before all keys
abbrev pub past : {K : Type 0} → (K → List ℕ) → Option K → Bound (List ℕ)
past bytes None = Unbounded
past bytes (Some key) = Excluded (bytes key)

-- the pairs that are still to come
abbrev pub pairs_after : {K V : Type 0} → (K → List ℕ) → Option K → List (List ℕ × V) → List (List ℕ × V)
pairs_after bytes last pairs = between (past bytes last) Unbounded pairs

-- the key of the first pair
abbrev pub first_key : {V : Type 0} → List (List ℕ × V) → Option (List ℕ)
first_key [] = None
first_key (e ∷ es) = Some e.0

-- the bytes of a key
abbrev pub bytes_in : {K : Type 0} → (K → List ℕ) → Option K → Option (List ℕ)
bytes_in bytes None = None
bytes_in bytes (Some key) = Some (bytes key)

-- The cursor moved to the next pair, or there is none.
abbrev pub Moves : {K V : Type 0} → (K → List ℕ) → List (List ℕ × V) → Option K → Bool → Option K → Type 0
Moves bytes pairs last false now = (pairs_after bytes last pairs ≡ []) × (now ≡ last)
Moves bytes pairs last true now = first_key (pairs_after bytes last pairs) ≡ bytes_in bytes now
