use Rattle.std.proofs.Common.{◌≡◌, ◌≤◌, replicate, None}
use Rattle.std.specs.Prelude.{vec_len, vec_capacity}
use Rattle.rart_parts.proofs.utils.places.new_places.Given as goal

abbrev pub invariant-loop-i : goal.invariant-loop-i
invariant-loop-i g l = (l.places.items ≡ replicate l.i None) × (vec_len l.places ≡ l.i)
    × (l.count ≤ vec_capacity l.places)
