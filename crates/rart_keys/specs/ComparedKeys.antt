-- Two keys, and how they compare.
use Rattle.std.specs.Prelude.{ℕ, ◌≡◌, List}
use Rattle.std.specs.Cmp.Lexicographic.{slice_cmp}
use Rattle.std.specs.Ordering.{nat_cmp}
use Rattle.std.specs.declared.cmp.Ordering.{Ordering}
use Rattle.rart_keys.specs.declared.keys.array_key.ArrayKey.{ArrayKey}
use Rattle.rart_keys.specs.ArrayKeyBytes.{array_key_bytes}

-- the keys have these bytes, the third is the order of the keys' bytes, and it is this order
pub record AreComparedAs {N : ℕ} (keys : ArrayKey N × ArrayKey N × Ordering) (first second : List ℕ)
    (order : Ordering) : Type 0 where
  pub first_bytes : array_key_bytes keys.0 ≡ first
  pub second_bytes : array_key_bytes keys.1 ≡ second
  pub order_of_keys : keys.2 ≡ slice_cmp nat_cmp (array_key_bytes keys.0) (array_key_bytes keys.1)
  pub compared : keys.2 ≡ order
