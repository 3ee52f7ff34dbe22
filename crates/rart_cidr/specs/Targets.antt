-- What the targets of a stride are to its callers.
use Rattle.std.specs.Prelude.{ℕ, List, [], ◌∷◌}
use Rattle.rart_cidr.specs.declared.stride.Targets.{Targets}
use Rattle.rart_cidr.specs.declared.stride.Targets.TheVariants.{Empty, One, Many}

-- the pairs of a code, as a key of one byte, and a target, ascending by code
abbrev pub pairs_of : {T : Type 0} → Targets T → List (List ℕ × T)
pairs_of Empty = []
pairs_of (One c t) = (c ∷ [], t) ∷ []
pairs_of (Many map) = map.value
