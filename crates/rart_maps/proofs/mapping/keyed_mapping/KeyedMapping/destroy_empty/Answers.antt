use Rattle.std.proofs.Common.{◌∙◌, ap, arith}
use Rattle.rart_parts.specs.Entries.{sorted_entries}
use Rattle.rart_maps.proofs.KeyedLemmas.{keyed_valueless}
use Rattle.rart_maps.proofs.mapping.keyed_mapping.KeyedMapping.destroy_empty.Goals as goal

pub destroy_empty-requires : goal.destroy_empty-requires
destroy_empty-requires g c = (
  omega arith,
  keyed_valueless c.self.invariant (ap sorted_entries c.self.view_is ∙ c.requires),
)
