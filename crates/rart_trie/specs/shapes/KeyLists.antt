-- Lists of keys: read from references, and as a map without values.
use Rattle.std.specs.Prelude.{ℕ, List, map}
use Rattle.std.specs.Borrow.{Bor}

-- the keys that references point to
abbrev pub keys_in : List (Bor (List ℕ)) → List (List ℕ)
keys_in ks = map (λ k. k.now) ks

-- the keys as a map, with nothing beside each
abbrev pub unit_pairs : List (List ℕ) → List (List ℕ × Unit {0})
unit_pairs s = map (λ k. (k, tt)) s
