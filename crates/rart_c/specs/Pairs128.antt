-- Pairs in a buffer as keys and values.
use Rattle.std.specs.Prelude.{ℕ, List, map, take}
use Rattle.rart_c.specs.declared.map128.pairs.Rart128Pair.{Rart128Pair}

abbrev pub pair_in : Rart128Pair → List ℕ × ℕ
pair_in p = (take p.len p.key, p.value)

abbrev pub pairs_read : List Rart128Pair → List (List ℕ × ℕ)
pairs_read ps = map pair_in ps

-- the lengths of their keys
abbrev pub lens_read : List Rart128Pair → List ℕ
lens_read ps = map (λ p. p.len) ps
