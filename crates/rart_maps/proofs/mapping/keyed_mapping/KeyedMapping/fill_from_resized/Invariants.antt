use Rattle.std.proofs.Common.{length}
use Rattle.rart_parts.specs.Entries.{sorted_entries}
use Rattle.rart_maps.proofs.SplitLemmas.{IsSplit}
use Rattle.rart_maps.proofs.mapping.keyed_mapping.KeyedMapping.fill_from_resized.Given as goal

-- the children that were moved, and those that the source still has
abbrev pub invariant-loop-key : goal.invariant-loop-key
invariant-loop-key g l = IsSplit (sorted_entries l.fn.source) (sorted_entries l.self) (sorted_entries l.source)

abbrev pub decreases-loop-key : goal.decreases-loop-key
decreases-loop-key g l = length (sorted_entries l.source)
