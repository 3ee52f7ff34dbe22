use Rattle.std.proofs.Common.{◌≡◌, ◌+◌, ◌≤◌, ◌++◌, length}
use Rattle.std.specs.Prelude.{vec_capacity}
use Rattle.rart_keys.specs.SortedMap.{values_of}
use Rattle.rart.proofs.script.copied_values.Given as goal

abbrev pub invariant-loop-value : goal.invariant-loop-value
invariant-loop-value g l = record {
  so_far : l.values.items ++ l.rest ≡ values_of l.tree.pairs;
  values_fit : length l.values.items + length l.rest ≤ vec_capacity l.values;
}

abbrev pub decreases-loop-value : goal.decreases-loop-value
decreases-loop-value g l = length l.rest
