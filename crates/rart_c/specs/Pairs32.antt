-- Pairs in a buffer as keys and values.
use Rattle.std.specs.Prelude.{ℕ, List, map, take}
use Rattle.rart_c.specs.declared.map32.pairs.Rart32Pair.{Rart32Pair}

abbrev pub pair_in : Rart32Pair → List ℕ × ℕ
pair_in p = (take p.len p.key, p.value)

abbrev pub pairs_read : List Rart32Pair → List (List ℕ × ℕ)
pairs_read ps = map pair_in ps

-- the lengths of their keys
abbrev pub lens_read : List Rart32Pair → List ℕ
lens_read ps = map (λ p. p.len) ps
