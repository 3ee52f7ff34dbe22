-- A map: a list of pairs, strictly ascending by their bytes.
use Rattle.std.specs.Prelude.{ℕ, not, max, length, List, [], ◌∷◌, map, Option, Some, None, if◌then◌else◌}
use Rattle.std.specs.List.{filter}
use Rattle.std.specs.Ordering.{nat_cmp, match_ordering}
use Rattle.std.specs.Cmp.Lexicographic.{slice_cmp}
use Rattle.rart_keys.specs.ByteStrings.{bytes_eq, IsLess}

-- each key of the list is above k
abbrev pub AreAbove : {V : Type 0} → List ℕ → List (List ℕ × V) → Type 0
AreAbove k [] = Unit {0}
AreAbove k (e ∷ es) = IsLess k e.0 × AreAbove k es

-- the keys ascend strictly
abbrev pub IsAscending : {V : Type 0} → List (List ℕ × V) → Type 0
IsAscending [] = Unit {0}
IsAscending (e ∷ es) = AreAbove e.0 es × IsAscending es

-- the keys, in order
abbrev pub keys_of : {V : Type 0} → List (List ℕ × V) → List (List ℕ)
keys_of es = map (λ e. e.0) es

-- the value at k
abbrev pub lookup : {V : Type 0} → List ℕ → List (List ℕ × V) → Option V
lookup k [] = None
lookup k (e ∷ es) = if bytes_eq e.0 k then Some e.1 else lookup k es

-- with the value at k set to v
abbrev pub put : {V : Type 0} → List ℕ → V → List (List ℕ × V) → List (List ℕ × V)
put k v [] = (k, v) ∷ []
put k v (e ∷ es) = match_ordering (slice_cmp nat_cmp k e.0) ((k, v) ∷ e ∷ es) ((k, v) ∷ es) (e ∷ put k v es)

-- without the pair at k
abbrev pub without : {V : Type 0} → List ℕ → List (List ℕ × V) → List (List ℕ × V)
without k es = filter (λ e. not (bytes_eq e.0 k)) es

-- how many values there are
abbrev pub count_of : {A : Type 0} → Option A → ℕ
count_of None = 0
count_of (Some a) = 1

-- the length of the longest key
abbrev pub longest_key : {V : Type 0} → List (List ℕ × V) → ℕ
longest_key [] = 0
longest_key (e ∷ es) = max (length e.0) (longest_key es)

-- the values, in the order of their keys
abbrev pub values_of : {V : Type 0} → List (List ℕ × V) → List V
values_of es = map (λ e. e.1) es
