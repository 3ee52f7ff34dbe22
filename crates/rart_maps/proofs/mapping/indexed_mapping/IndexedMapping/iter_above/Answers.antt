use Rattle.std.proofs.Common.{◌∙◌, ap, subst}
use Rattle.rart_parts.specs.Entries.{BytesAscend, sorted_entries, entries_above}
use Rattle.rart_parts.specs.Places.{numbered_values}
use Rattle.rart_parts.proofs.entries.EntryLemmas.{above-ascends}
use Rattle.rart_maps.proofs.IndexWalk.{slots_above}
use Rattle.rart_maps.specs.Dense.{filled}
use Rattle.rart_maps.proofs.DenseLemmas.{dense_ascends, dense_slots, dense_walk, slots_below-above}
use Rattle.rart_maps.proofs.mapping.indexed_mapping.IndexedMapping.iter_above.Goals as goal

pub invariant_of-result : goal.invariant_of-result
invariant_of-result g c = rw (c.as_slice.ensures, c.iter_above.ensures, c.keys.ensures)
    (slots_below-above _ c.args.byte _ (dense_slots c.self.invariant))

pub returns-clause-entries : goal.returns-clause-entries
returns-clause-entries g c = rw (c.as_slice.ensures, c.iter_above.ensures, c.keys.ensures)
    (slots_above c.args.byte (filled c.self.inside.block.items) (numbered_values 0 c.self.inside.block.keys.index)
    ∙ ap (entries_above c.args.byte) (dense_walk c.self.invariant ∙ ap (λ d. sorted_entries d.entries) c.self.view_is))

pub returns-clause-ascending : goal.returns-clause-ascending
returns-clause-ascending g c = above-ascends c.args.byte _
    (subst (λ d. BytesAscend (sorted_entries d.entries)) c.self.view_is (dense_ascends c.self.invariant))
