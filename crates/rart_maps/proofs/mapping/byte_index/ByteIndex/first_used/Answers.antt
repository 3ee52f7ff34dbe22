use Rattle.std.proofs.Common.{◌∙◌, ap}
use Rattle.rart_parts.specs.Places.{is_used}
use Rattle.rart_maps.proofs.ByteIndexLemmas.{first_agrees}
use Rattle.rart_maps.proofs.mapping.byte_index.ByteIndex.first_used.Goals as goal

pub returns : goal.returns
returns c = first_agrees _ _ 256 (λ k h. c.self.invariant.agrees k h ∙ ap (λ os. is_used os k) c.self.view_is)
    c.first_set.result c.first_set.ensures
