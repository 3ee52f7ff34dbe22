use Rattle.std.proofs.Common.{◌∙◌, ap, subst}
use Rattle.rart_parts.specs.Entries.{BytesAscend, sorted_entries}
use Rattle.rart_maps.proofs.DenseLemmas.{dense_ascends, dense_slots, dense_walk}
use Rattle.rart_maps.proofs.mapping.indexed_mapping.IndexedMapping.iter.Goals as goal

pub invariant_of-result : goal.invariant_of-result
invariant_of-result g c = rw (c.as_slice.ensures, c.iter.ensures, c.keys.ensures) (dense_slots c.self.invariant)

pub returns-clause-entries : goal.returns-clause-entries
returns-clause-entries g c = rw (c.as_slice.ensures, c.iter.ensures, c.keys.ensures)
    (dense_walk c.self.invariant ∙ ap (λ d. sorted_entries d.entries) c.self.view_is)

pub returns-clause-ascending : goal.returns-clause-ascending
returns-clause-ascending g c = subst (λ d. BytesAscend (sorted_entries d.entries)) c.self.view_is
    (dense_ascends c.self.invariant)
