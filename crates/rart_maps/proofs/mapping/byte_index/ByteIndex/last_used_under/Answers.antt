use Rattle.std.proofs.Common.{◌∙◌, ap, arith}
use Rattle.rart_parts.specs.Places.{is_used}
use Rattle.rart_parts.proofs.sets.Members.{last_agrees}
use Rattle.rart_maps.proofs.mapping.byte_index.ByteIndex.last_used_under.Goals as goal

pub returns : goal.returns
returns c = last_agrees _ _ c.args.above (λ k h. c.self.invariant.agrees k (omega arith)
    ∙ ap (λ os. is_used os k) c.self.view_is) c.last_under.result c.last_under.ensures
