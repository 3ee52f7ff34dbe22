use Rattle.std.proofs.Common.{◌∙◌, List, None, get_or, sym, ap}
use Rattle.rart_parts.specs.Entries.{child_at, sorted_entries}
use Rattle.rart_maps.proofs.DenseLemmas.{dense_none, dense_some, filled_at}
use Rattle.rart_maps.proofs.mapping.indexed_mapping.IndexedMappingNodeMapping.seek_child.Goals as goal

pub returns-in-Some : goal.returns-in-Some
returns-in-Some g c =
    let named = ap (λ s. get_or s.index c.args.key None) (sym c.keys.ensures) ∙ sym c.in-Some.ensures in
    sym (dense_some c.self.invariant c.args.key c.in-Some.slot named
    ∙ filled_at c.self.inside.block.items c.in-Some.slot c.index-as_slice-slot.result
    (c.self.invariant.has_child c.args.key c.in-Some.slot named) (c.index-as_slice-slot.is
    ∙ ap (λ (l : List g.row.N.Denot). get_or l c.in-Some.slot c.index-as_slice-slot.result) c.as_slice.ensures))
    ∙ ap (λ d. child_at c.args.key (sorted_entries d.entries)) c.self.view_is

pub returns-in-None : goal.returns-in-None
returns-in-None g c =
    let unnamed = ap (λ s. get_or s.index c.args.key None) (sym c.keys.ensures) ∙ sym c.in-None.ensures in
    sym (dense_none c.self.invariant c.args.key unnamed)
    ∙ ap (λ d. child_at c.args.key (sorted_entries d.entries)) c.self.view_is
