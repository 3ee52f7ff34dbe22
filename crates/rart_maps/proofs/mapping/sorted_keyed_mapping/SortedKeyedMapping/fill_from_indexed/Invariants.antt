use Rattle.std.proofs.Common.{◌≡◌, ◌++◌, length}
use Rattle.rart_parts.specs.Entries.{BytesAscend, sorted_entries}
use Rattle.rart_maps.proofs.mapping.sorted_keyed_mapping.SortedKeyedMapping.fill_from_indexed.Given as goal

-- the children that were moved, and then those that remain
abbrev pub invariant-loop-key : goal.invariant-loop-key
invariant-loop-key g l = BytesAscend (sorted_entries l.fn.source.entries)
    × (l.self.entries ++ sorted_entries l.source.entries ≡ sorted_entries l.fn.source.entries)
    × (l.self.extra ≡ l.fn.self.extra) × (l.source.extra ≡ l.fn.source.extra)

abbrev pub decreases-loop-key : goal.decreases-loop-key
decreases-loop-key g l = length (sorted_entries l.source.entries)
