use Rattle.std.proofs.Common.{◌≡◌, ◌++◌, length}
use Rattle.rart_parts.specs.Entries.{sorted_entries, BytesAscend}
use Rattle.rart_maps.proofs.mapping.indexed_mapping.IndexedMapping.fill_from_sorted_keyed.Given as goal

-- the children that remain, and then those that were moved
abbrev pub invariant-loop-key : goal.invariant-loop-key
invariant-loop-key g l = BytesAscend l.fn.source.entries
    × (l.source.entries ++ sorted_entries l.self.entries ≡ l.fn.source.entries)
    × (l.self.extra ≡ l.fn.self.extra) × (l.source.extra ≡ l.fn.source.extra)

abbrev pub decreases-loop-key : goal.decreases-loop-key
decreases-loop-key g l = length l.source.entries
