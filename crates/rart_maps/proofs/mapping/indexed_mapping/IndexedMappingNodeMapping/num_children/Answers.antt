use Rattle.std.proofs.Common.{◌∙◌, None, length, sym, ap, subst, arith}
use Rattle.std.proofs.lemmas.List.{get_or_past}
use Rattle.rart_parts.specs.Entries.{BytesAscend, sorted_entries, child_at}
use Rattle.rart_maps.proofs.DenseLemmas.{dense_ascends, dense_count, dense_none}
use Rattle.rart_maps.proofs.mapping.indexed_mapping.IndexedMappingNodeMapping.num_children.Goals as goal

pub returns-clause-count : goal.returns-clause-count
returns-clause-count g c = c.len.ensures.count ∙ sym (dense_count c.self.invariant)
    ∙ ap (λ d. length (sorted_entries d.entries)) c.self.view_is

pub returns-clause-at_most : goal.returns-clause-at_most
returns-clause-at_most g c = omega (
  arith,
  dense_count c.self.invariant,
  ap (λ d. length (sorted_entries d.entries)) c.self.view_is,
  c.self.invariant.few,
)

pub returns-clause-ascending : goal.returns-clause-ascending
returns-clause-ascending g c = subst (λ d. BytesAscend (sorted_entries d.entries)) c.self.view_is
    (dense_ascends c.self.invariant)

pub returns-clause-bytes : goal.returns-clause-bytes
returns-clause-bytes g c b h = sym (ap (λ d. child_at b (sorted_entries d.entries)) c.self.view_is)
    ∙ dense_none c.self.invariant b (get_or_past c.self.inside.block.keys.index b None
    (omega (arith, h, c.self.invariant.whole)))
