-- What holds of the fields of a table by octets, and of a walk over one.
use Rattle.std.specs.Prelude.{◌≡◌, ◌≢◌, ◌≤◌, ℕ, List, [], ◌∷◌, length, Option, Some, None, option_map, slice_get}
use Rattle.std.specs.declared.ops.Bound.{Bound}
use Rattle.rart_keys.specs.Ranges.{from_bound}
use Rattle.rart.specs.declared.tree.TheConstants.{MAX_PAIRS}
use Rattle.rart_keys.specs.SortedMap.{lookup}
use Rattle.rart_cidr.specs.Routes.{AreStrides, IsCode, routes_of}
use Rattle.rart_cidr.specs.Walks.{AreAhead, IsStart, keys_ahead, net_at}

-- `len` counts the routes of the strides
pub record AreTableFields {T : Type 0} (strides : List (List ℕ × List (List ℕ × T))) (len : ℕ) : Type 0 where
  pub formed : AreStrides strides
  pub counted : len ≡ length (routes_of strides)
  pub few : len ≤ MAX_PAIRS

-- the walk is at the network of the bytes `key` and a code, and `keys` are those of the strides after it
pub record AreWalkFields {T : Type 0} (strides : List (List ℕ × List (List ℕ × T))) (key : List ℕ) (code : ℕ)
    (keys : List (List ℕ)) : Type 0 where
  pub formed : AreStrides strides
  pub is_code : IsCode (code ∷ [])
  pub ahead : AreAhead (net_at key code) strides keys

-- the walk is there, and `ahead` is the first of those keys, or there is none
abbrev pub IsAtNetwork : {K T : Type 0} → (K → List ℕ) → List (List ℕ × List (List ℕ × T)) → List ℕ → ℕ → Option K
    → Type 0
IsAtNetwork {K} {T} bytes strides key code ahead = (rest : List (List ℕ × List (List ℕ × T)))
    × AreWalkFields strides key code (keys_ahead bytes ahead rest)
    × ((k : K) → ahead ≡ Some k → lookup (bytes k) strides ≢ None)

-- this is the first key of those whose bits come after q, or there is none
abbrev pub IsFirstAfter : {K S : Type 0} → (K → List ℕ) → List ℕ → List (List ℕ × S) → Option K → Type 0
IsFirstAfter bytes q strides ahead = (start : Bound (List ℕ)) × IsStart q start
    × (option_map bytes ahead ≡ option_map (λ e. e.0) (slice_get (from_bound start strides) 0))
