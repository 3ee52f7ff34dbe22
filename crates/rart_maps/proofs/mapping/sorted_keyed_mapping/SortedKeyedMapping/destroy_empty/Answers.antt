use Rattle.std.proofs.Common.{sym, ap, ◌∙◌, length, arith}
use Rattle.rart_maps.proofs.SortedLemmas.{counted, no_items}
use Rattle.rart_maps.proofs.mapping.sorted_keyed_mapping.SortedKeyedMapping.destroy_empty.Goals as goal

pub destroy_empty-extra-requires : goal.destroy_empty-extra-requires
destroy_empty-extra-requires g c = (
  omega arith,
  no_items c.self.inside.block.items
      (sym (counted c.self.invariant _ (ap (λ d. d.entries) c.self.view_is)) ∙ ap length c.requires),
)
