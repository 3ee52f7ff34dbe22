-- Bounds of a range as C passes them: a kind, which is 0 (unbounded), 1 (included) or 2 (excluded), and a key.
use Rattle.std.specs.Prelude.{ℕ, zero, suc, nat_lt, List, length, Option, None, Some, if◌then◌else◌}
use Rattle.std.specs.Option.{option_or}
use Rattle.std.specs.declared.ops.Bound.{Bound}
use Rattle.std.specs.declared.ops.Bound.TheVariants.{Included, Excluded, Unbounded}
use Rattle.rart_c.specs.declared.bounds.BoundFault.{BoundFault}
use Rattle.rart_c.specs.declared.bounds.BoundFault.TheVariants.{KeyTooLong, BadKind}

-- what is wrong with a bound of this kind at a key of len bytes, where keys have at most `width`
abbrev pub bound_fault : ℕ → ℕ → ℕ → Option BoundFault
bound_fault width zero len = None
bound_fault width (suc zero) len = if nat_lt width len then Some KeyTooLong else None
bound_fault width (suc (suc zero)) len = if nat_lt width len then Some KeyTooLong else None
bound_fault width (suc (suc (suc _))) len = Some BadKind

-- what is wrong with a start or an end; with the start, if both are faulty
abbrev pub range_fault : ℕ → ℕ → List ℕ → ℕ → List ℕ → Option BoundFault
range_fault width start_kind start end_kind end = option_or (bound_fault width start_kind (length start))
    (bound_fault width end_kind (length end))

-- the bound that a kind and a key stand for
abbrev pub bound_of : ℕ → List ℕ → Bound (List ℕ)
bound_of zero key = Unbounded
bound_of (suc zero) key = Included key
bound_of (suc (suc _)) key = Excluded key
