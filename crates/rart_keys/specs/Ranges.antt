-- The pairs of a sorted map within two bounds.
use Rattle.std.specs.Prelude.{ℕ, ◌&&◌, Bool, true, false, List, [], ◌∷◌, if◌then◌else◌}
use Rattle.std.specs.List.{filter}
use Rattle.std.specs.Ordering.{nat_cmp, match_ordering}
use Rattle.std.specs.Cmp.Lexicographic.{slice_cmp}
use Rattle.std.specs.declared.ops.Bound.{Bound}
use Rattle.std.specs.declared.ops.Bound.TheVariants.{Included, Excluded, Unbounded}

-- a bound by the bytes of its key
abbrev pub bound_in : {K : Type 0} → (K → List ℕ) → Bound K → Bound (List ℕ)
bound_in bytes Unbounded = Unbounded
bound_in bytes (Included key) = Included (bytes key)
bound_in bytes (Excluded key) = Excluded (bytes key)

-- whether k comes after s; where it is s the answer is h
abbrev pub is_from_bound : Bool → List ℕ → List ℕ → Bool
is_from_bound h s k = match_ordering (slice_cmp nat_cmp k s) false h true

-- whether k comes before s; where it is s the answer is h
abbrev pub is_until : Bool → List ℕ → List ℕ → Bool
is_until h s k = match_ordering (slice_cmp nat_cmp k s) true h false

-- whether a key is within a start
abbrev pub is_from : Bound (List ℕ) → List ℕ → Bool
is_from Unbounded k = true
is_from (Included a) k = is_from_bound true a k
is_from (Excluded a) k = is_from_bound false a k

-- whether a key is within an end
abbrev pub is_to : Bound (List ℕ) → List ℕ → Bool
is_to Unbounded k = true
is_to (Included a) k = is_until true a k
is_to (Excluded a) k = is_until false a k

-- the pairs within a start, in order
abbrev pub from_bound : {V : Type 0} → Bound (List ℕ) → List (List ℕ × V) → List (List ℕ × V)
from_bound a es = filter (λ e. is_from a e.0) es

-- the pairs that come after s, and where h says so the one at s
abbrev pub pairs_from : {V : Type 0} → Bool → List ℕ → List (List ℕ × V) → List (List ℕ × V)
pairs_from h s es = filter (λ e. is_from_bound h s e.0) es

-- the pairs before the first one past an end
abbrev pub up_to : {V : Type 0} → Bound (List ℕ) → List (List ℕ × V) → List (List ℕ × V)
up_to b [] = []
up_to b (e ∷ es) = if is_to b e.0 then e ∷ up_to b es else []

-- the pairs within both bounds, in order
abbrev pub between : {V : Type 0} → Bound (List ℕ) → Bound (List ℕ) → List (List ℕ × V) → List (List ℕ × V)
between a b es = filter (λ e. is_from a e.0 && is_to b e.0) es

-- the bytes of a bound
abbrev pub bound_bytes : Bound (List ℕ) → List ℕ
bound_bytes Unbounded = []
bound_bytes (Included a) = a
bound_bytes (Excluded a) = a

-- whether a start has its own bytes within
abbrev pub is_inclusive : Bound (List ℕ) → Bool
is_inclusive Unbounded = true
is_inclusive (Included a) = true
is_inclusive (Excluded a) = false
