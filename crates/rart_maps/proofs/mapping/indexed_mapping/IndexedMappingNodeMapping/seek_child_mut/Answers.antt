use Rattle.std.proofs.Common.{◌∙◌, None, get_or, sym, ap, refl}
use Rattle.rart_parts.specs.Entries.{child_at, replaced_at, sorted_entries}
use Rattle.rart_maps.proofs.DenseLemmas.{dense_none, dense_some, filled_at, written_map}
use Rattle.rart_maps.proofs.mapping.indexed_mapping.IndexedMappingNodeMapping.seek_child_mut.Goals as goal

pub returns-in-Some : goal.returns-in-Some
returns-in-Some g c =
    let named = ap (λ s. get_or s.index c.args.key None) (sym c.keys.ensures) ∙ sym c.in-Some.ensures in (
      (
        refl,
        λ w. (
          written_map c.self.invariant c.args.key c.in-Some.slot named w
              ∙ ap (λ d. replaced_at c.args.key w (sorted_entries d.entries)) c.self.view_is,
          ap (λ d. d.extra) c.self.view_is,
        ),
        (refl, refl),
      ),
      record {
        writes_back = tt;
        value = sym (dense_some c.self.invariant c.args.key c.in-Some.slot named
            ∙ filled_at c.self.inside.block.items c.in-Some.slot c.item_mut.result.now
            (c.self.invariant.has_child c.args.key c.in-Some.slot named) c.item_mut.ensures.value)
            ∙ ap (λ d. child_at c.args.key (sorted_entries d.entries)) c.self.view_is;
      },
    )

pub returns-in-None : goal.returns-in-None
returns-in-None g c =
    let unnamed = ap (λ s. get_or s.index c.args.key None) (sym c.keys.ensures) ∙ sym c.in-None.ensures in (
      (refl, λ w. tt, (ap (λ d. sorted_entries d.entries) c.self.view_is, ap (λ d. d.extra) c.self.view_is)),
      record {
        writes_back = tt;
        value = sym (dense_none c.self.invariant c.args.key unnamed)
            ∙ ap (λ d. child_at c.args.key (sorted_entries d.entries)) c.self.view_is;
      },
    )
