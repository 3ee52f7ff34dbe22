-- A map from bytes: a list of entries, each a byte and what is stored at it.
use Rattle.std.specs.Prelude.{ℕ, ◌≡◌, ◌<◌, ◌==◌, if◌then◌else◌, nat_lt, zero, suc, List, [], ◌∷◌, map, Option, Some}
use Rattle.std.specs.Prelude.{None, MatchOption}

-- what is stored at a byte, if anything does
abbrev pub child_at : {X : Type 0} → ℕ → List (ℕ × X) → Option X
child_at k [] = None
child_at k (e ∷ es) = if e.0 == k then Some e.1 else child_at k es

-- with a child at a byte, before the first greater byte, in place of the old one
abbrev pub with_entry : {X : Type 0} → ℕ → X → List (ℕ × X) → List (ℕ × X)
with_entry k x [] = (k, x) ∷ []
with_entry k x (e ∷ es) = if nat_lt k e.0 then (k, x) ∷ e ∷ es
    else if e.0 == k then (k, x) ∷ es else e ∷ with_entry k x es

-- without what is stored at a byte
abbrev pub without_byte : {X : Type 0} → ℕ → List (ℕ × X) → List (ℕ × X)
without_byte k [] = []
without_byte k (e ∷ es) = if e.0 == k then es else e ∷ without_byte k es

-- an entry was taken out and given; none of a map without entries
abbrev pub TakesEntry : {X : Type 0} → List (ℕ × X) → List (ℕ × X) → Option (ℕ × X) → Type 0
TakesEntry old new taken = MatchOption taken ((old ≡ []) × (new ≡ [])) (λ e. (child_at e.0 old ≡ Some e.1)
    × (new ≡ without_byte e.0 old))

-- with another child at a byte that has one
abbrev pub replaced_at : {X : Type 0} → ℕ → X → List (ℕ × X) → List (ℕ × X)
replaced_at k x [] = []
replaced_at k x (e ∷ es) = if e.0 == k then (k, x) ∷ es else e ∷ replaced_at k x es

-- those whose byte is above k, in their order
abbrev pub entries_above : {X : Type 0} → ℕ → List (ℕ × X) → List (ℕ × X)
entries_above k [] = []
entries_above k (e ∷ es) = if nat_lt k e.0 then e ∷ entries_above k es else entries_above k es

-- the answer is the entry at the greatest byte below a bound, and None where no byte below it has a child
abbrev pub IsLastUnder : {X : Type 0} → ℕ → List (ℕ × X) → Option (ℕ × X) → Type 0
IsLastUnder above es answer = MatchOption answer ((b : ℕ) → b < above → child_at b es ≡ None)
    (λ e. (e.0 < above) × (child_at e.0 es ≡ Some e.1) × ((b : ℕ) → e.0 < b → b < above → child_at b es ≡ None))

-- with one more child at a byte, before the first byte that is not below
abbrev pub with_another : {X : Type 0} → ℕ → X → List (ℕ × X) → List (ℕ × X)
with_another k x [] = (k, x) ∷ []
with_another k x (e ∷ es) = if nat_lt e.0 k then e ∷ with_another k x es else (k, x) ∷ e ∷ es

-- in the order of the bytes; entries at one byte stay in their order
abbrev pub sorted_entries : {X : Type 0} → List (ℕ × X) → List (ℕ × X)
sorted_entries [] = []
sorted_entries (e ∷ es) = with_another e.0 e.1 (sorted_entries es)

-- the first byte, if there is one, is above k
abbrev pub StartsAbove : {X : Type 0} → ℕ → List (ℕ × X) → Type 0
StartsAbove k [] = Unit {0}
StartsAbove k (e ∷ es) = k < e.0

-- each byte is below the next
abbrev pub BytesAscend : {X : Type 0} → List (ℕ × X) → Type 0
BytesAscend [] = Unit {0}
BytesAscend (e ∷ es) = StartsAbove e.0 es × BytesAscend es

-- the children alone, in order
abbrev pub children_of : {X : Type 0} → List (ℕ × X) → List X
children_of es = map (λ p. p.1) es

-- with another child in entry i
abbrev pub set_child : {X : Type 0} → ℕ → X → List (ℕ × X) → List (ℕ × X)
set_child i x [] = []
set_child zero x (e ∷ es) = (e.0, x) ∷ es
set_child (suc i) x (e ∷ es) = e ∷ set_child i x es
