-- What the removal of all pairs within two bounds leaves.
use Rattle.std.specs.Prelude.{ℕ, ◌&&◌, not, List}
use Rattle.std.specs.List.{filter}
use Rattle.std.specs.declared.ops.Bound.{Bound}
use Rattle.rart_keys.specs.Ranges.{is_from, is_to}

-- the pairs that are not within two bounds, in order
abbrev pub outside : {V : Type 0} → Bound (List ℕ) → Bound (List ℕ) → List (List ℕ × V) → List (List ℕ × V)
outside a b es = filter (λ e. not (is_from a e.0 && is_to b e.0)) es
