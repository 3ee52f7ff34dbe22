-- A pair whose key comes after some bytes.
use Rattle.std.specs.Prelude.{ℕ, List, ◌++◌, Option, option_map}

-- with these bytes in front of its key
abbrev pub after_bytes : {V : Type 0} → List ℕ → Option (List ℕ × V) → Option (List ℕ × V)
after_bytes p o = option_map (λ x. (p ++ x.0, x.1)) o
