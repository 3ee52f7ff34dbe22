use Rattle.std.proofs.Common.{◌≡◌, length}
use Rattle.rart_parts.specs.Entries.{sorted_entries}
use Rattle.rart_maps.proofs.SplitLemmas.{IsSplit}
use Rattle.rart_maps.proofs.mapping.indexed_mapping.IndexedMapping.fill_from_keyed.Given as goal

-- the children that were moved, and those that the source still has
abbrev pub invariant-loop-key : goal.invariant-loop-key
invariant-loop-key g l = IsSplit (sorted_entries l.fn.source) (sorted_entries l.self.entries) (sorted_entries l.source)
    × (l.self.extra ≡ l.fn.self.extra)

abbrev pub decreases-loop-key : goal.decreases-loop-key
decreases-loop-key g l = length (sorted_entries l.source)
