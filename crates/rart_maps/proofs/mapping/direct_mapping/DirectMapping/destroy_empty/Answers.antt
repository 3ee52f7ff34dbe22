use Rattle.std.proofs.Common.{None, ◌∙◌, ap, arith, replicate}
use Rattle.rart_maps.proofs.DirectLemmas.{numbered_vacant}
use Rattle.rart_maps.proofs.mapping.direct_mapping.DirectMapping.destroy_empty.Goals as goal

pub destroy_empty-extra-requires : goal.destroy_empty-extra-requires
destroy_empty-extra-requires g c = (
  omega arith,
  numbered_vacant 0 c.self.inside.block.items (ap (λ d. d.entries) c.self.view_is ∙ c.requires)
      ∙ ap (λ n. replicate n None) c.self.invariant.0.full,
)
