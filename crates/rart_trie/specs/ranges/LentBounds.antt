-- A bound over slices.
use Rattle.std.specs.Prelude.{ℕ, List}
use Rattle.std.specs.Borrow.{Bor}
use Rattle.std.specs.declared.ops.Bound.{Bound}
use Rattle.rart_keys.specs.Ranges.{bound_in}

-- as one over byte strings
abbrev pub lent_bound : Bound (Bor (List ℕ)) → Bound (List ℕ)
lent_bound b = bound_in (λ k. k.now) b
