use Rattle.std.proofs.Common.{◌∙◌, List, ap, get_or}
use Rattle.rart_parts.specs.Entries.{child_at}
use Rattle.rart_maps.proofs.SortedSearch.{searched, found, not_found}
use Rattle.rart_maps.proofs.mapping.sorted_keyed_mapping.SortedKeyedMappingNodeMapping.seek_child.Goals as goal

pub place_of-requires : goal.place_of-requires
place_of-requires g c = searched c.keys.ensures c.self.invariant _ c.len.ensures.count

pub returns-in-Some : goal.returns-in-Some
returns-in-Some g c = found c.keys.ensures c.self.invariant _ c.len.ensures.count c.args.key c.in-Some.at
    c.index-as_slice-at.result c.in-Some.ensures (c.index-as_slice-at.is
    ∙ ap (λ (l : List g.row.N.Denot). get_or l c.in-Some.at c.index-as_slice-at.result) c.as_slice.ensures)
    ∙ ap (λ d. child_at c.args.key d.entries) c.self.view_is

pub returns-in-None : goal.returns-in-None
returns-in-None g c = not_found c.keys.ensures c.self.invariant _ c.len.ensures.count c.args.key c.in-None.ensures
    ∙ ap (λ d. child_at c.args.key d.entries) c.self.view_is
