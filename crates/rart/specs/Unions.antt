-- The keys that one of two maps has, or both, and those that the first has alone.
use Rattle.std.specs.Prelude.{ℕ, ◌≡◌, List, [], ◌∷◌, map, Option, Some, None}
use Rattle.std.specs.Borrow.{Bor}
use Rattle.std.specs.Cmp.Lexicographic.{slice_cmp}
use Rattle.std.specs.List.{filter}
use Rattle.std.specs.Option.{is_none}
use Rattle.std.specs.Ordering.{match_ordering, nat_cmp}
use Rattle.std.specs.declared.cmp.Ordering.{Ordering}
use Rattle.std.specs.declared.cmp.Ordering.TheVariants.{Less, Greater}
use Rattle.rart_keys.specs.SortedMap.{lookup, put}

-- the keys of either map, ascending, each with its value in each map
abbrev pub union_of : {V W : Type 0} → List (List ℕ × V) → List (List ℕ × W) → List (List ℕ × (Option V × Option W))
union_of [] m = map (λ e. (e.0, (None, Some e.1))) m
union_of (e ∷ es) m = put e.0 (Some e.1, lookup e.0 m) (union_of es m)

-- both values, unless neither is there
abbrev pub either : {V W : Type 0} → Option V → Option W → Option (Option V × Option W)
either None None = None
either None (Some w) = Some (None, Some w)
either (Some v) y = Some (Some v, y)

-- the pairs whose keys m doesn't have
abbrev pub difference_of : {V W : Type 0} → List (List ℕ × V) → List (List ℕ × W) → List (List ℕ × V)
difference_of es m = filter (λ e. is_none (lookup e.0 m)) es

-- the value of the first map where the second has none
abbrev pub first_alone : {V W : Type 0} → Option V → Option W → Option V
first_alone x None = x
first_alone x (Some w) = None

-- the pairs of an iterator whose first pair was taken from it
abbrev pub pairs_ahead : {K V : Type 0} → (K → List ℕ) → Option (K × Bor V) → List (List ℕ × V) → List (List ℕ × V)
pairs_ahead bytes None rest = rest
pairs_ahead bytes (Some p) rest = (bytes p.0, p.1.now) ∷ rest

-- without a first pair there are none
abbrev pub EndsWithFirst : {K V : Type 0} → Option (K × Bor V) → List (List ℕ × V) → Type 0
EndsWithFirst None rest = rest ≡ []
EndsWithFirst (Some p) rest = Unit {0}

-- how the first keys of two lists compare; a list without a pair is after any other
abbrev pub first_order : {V W : Type 0} → List (List ℕ × V) → List (List ℕ × W) → Option Ordering
first_order [] [] = None
first_order [] (e ∷ m) = Some Greater
first_order (d ∷ l) [] = Some Less
first_order (d ∷ l) (e ∷ m) = Some (slice_cmp nat_cmp d.0 e.0)

-- how the first key compares with k; a list without a pair is after any key
abbrev pub first_order_to : {V : Type 0} → List ℕ → List (List ℕ × V) → Ordering
first_order_to k [] = Greater
first_order_to k (e ∷ es) = slice_cmp nat_cmp e.0 k

-- without the first pairs, whose keys are below k
abbrev pub pairs_from_key : {V : Type 0} → List ℕ → List (List ℕ × V) → List (List ℕ × V)
pairs_from_key k [] = []
pairs_from_key k (e ∷ es) = match_ordering (slice_cmp nat_cmp e.0 k) (pairs_from_key k es) (e ∷ es) (e ∷ es)
