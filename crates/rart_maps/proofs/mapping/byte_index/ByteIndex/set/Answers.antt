use Rattle.std.proofs.Common.{Some, set, ap, ◌∙◌, arith}
use Rattle.rart_maps.proofs.ByteIndexLemmas.{index_with, slots_with}
use Rattle.rart_maps.proofs.mapping.byte_index.ByteIndex.set.Goals as goal

pub invariant_of-self : goal.invariant_of-self
invariant_of-self c = index_with c.self.invariant _ c.args.byte (omega (arith, c.ranges.byte.fits)) c.args.slot
    c.requires c.set.ensures

pub returns : goal.returns
returns c = slots_with c.self.invariant c.set.new.self.words c.args.byte (omega (arith, c.ranges.byte.fits)) c.args.slot
    c.requires ∙ ap (λ os. set os c.args.byte (Some c.args.slot)) c.self.view_is
