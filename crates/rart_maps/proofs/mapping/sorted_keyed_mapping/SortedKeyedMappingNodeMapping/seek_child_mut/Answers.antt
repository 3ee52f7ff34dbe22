use Rattle.std.proofs.Common.{◌∙◌, ap, refl}
use Rattle.rart_parts.specs.Entries.{child_at, replaced_at}
use Rattle.rart_maps.proofs.SortedLemmas.{written}
use Rattle.rart_maps.proofs.SortedSearch.{searched, found, not_found, left_at}
use Rattle.rart_maps.proofs.mapping.sorted_keyed_mapping.SortedKeyedMappingNodeMapping.seek_child_mut.Goals as goal

pub place_of-requires : goal.place_of-requires
place_of-requires g c = searched c.keys.ensures c.self.invariant _ c.len.ensures.count

pub invariant_of-self-lent : goal.invariant_of-self-lent
invariant_of-self-lent g c = written c.self.invariant c.in-Some.at

pub returns-in-Some : goal.returns-in-Some
returns-in-Some g c = (
  (
    refl,
    λ w. (
      left_at c.keys.ensures c.self.invariant _ c.len.ensures.count c.args.key c.in-Some.at w c.in-Some.ensures
          ∙ ap (λ d. replaced_at c.args.key w d.entries) c.self.view_is,
      ap (λ d. d.extra) c.self.view_is,
    ),
    (refl, refl),
  ),
  record {
    writes_back = tt;
    value = found c.keys.ensures c.self.invariant _ c.len.ensures.count c.args.key c.in-Some.at
        c.item_mut.result.now c.in-Some.ensures c.item_mut.ensures.value
        ∙ ap (λ d. child_at c.args.key d.entries) c.self.view_is;
  },
)

pub returns-in-None : goal.returns-in-None
returns-in-None g c = (
  (refl, λ w. tt, (ap (λ d. d.entries) c.self.view_is, ap (λ d. d.extra) c.self.view_is)),
  record {
    writes_back = tt;
    value = not_found c.keys.ensures c.self.invariant _ c.len.ensures.count c.args.key c.in-None.ensures
        ∙ ap (λ d. child_at c.args.key d.entries) c.self.view_is;
  },
)
