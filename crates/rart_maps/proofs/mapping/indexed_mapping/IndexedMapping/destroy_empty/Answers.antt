use Rattle.std.proofs.Common.{◌∙◌, length, sym, ap, arith}
use Rattle.rart_parts.specs.Entries.{sorted_entries}
use Rattle.rart_maps.proofs.SortedLemmas.{no_items}
use Rattle.rart_maps.proofs.DenseLemmas.{dense_count}
use Rattle.rart_maps.proofs.mapping.indexed_mapping.IndexedMapping.destroy_empty.Goals as goal

pub destroy_empty-extra-requires : goal.destroy_empty-extra-requires
destroy_empty-extra-requires g c = (
  omega arith,
  no_items c.self.inside.block.items (sym (dense_count c.self.invariant)
      ∙ ap (λ d. length (sorted_entries d.entries)) c.self.view_is ∙ ap length c.requires),
)
