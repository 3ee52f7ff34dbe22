-- The keys that two maps share.
use Rattle.std.specs.Prelude.{◌≡◌, ◌≢◌, ℕ, List, [], ◌∷◌, map, Option, Some, None}
use Rattle.rart_keys.specs.SortedMap.{lookup}

-- both values, where both are there
abbrev pub both : {V W : Type 0} → Option V → Option W → Option (V × W)
both None y = None
both (Some v) None = None
both (Some v) (Some w) = Some (v, w)

-- the pair at k with a second value, if there is one, in front
abbrev pub ahead_if : {V W : Type 0} → List ℕ → V → Option W → List (List ℕ × (V × W)) → List (List ℕ × (V × W))
ahead_if k v None es = es
ahead_if k v (Some w) es = (k, (v, w)) ∷ es

-- the keys of both maps, each with its two values
abbrev pub join : {V W : Type 0} → List (List ℕ × V) → List (List ℕ × W) → List (List ℕ × (V × W))
join [] m = []
join (e ∷ es) m = ahead_if e.0 e.1 (lookup e.0 m) (join es m)

-- the same keys with the two values the other way round
abbrev pub swapped_pairs : {V W : Type 0} → List (List ℕ × (V × W)) → List (List ℕ × (W × V))
swapped_pairs es = map (λ e. (e.0, (e.1.1, e.1.0))) es

-- each key of l is a key of m
abbrev pub AreKeysOf : {V W : Type 0} → List (List ℕ × V) → List (List ℕ × W) → Type 0
AreKeysOf l m = (k : List ℕ) → lookup k l ≢ None → lookup k m ≢ None

-- no key of l is a key of m
abbrev pub ShareNoKey : {V W : Type 0} → List (List ℕ × V) → List (List ℕ × W) → Type 0
ShareNoKey l m = (k : List ℕ) → lookup k l ≢ None → lookup k m ≡ None
