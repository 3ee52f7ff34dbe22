use Rattle.std.proofs.Common.{None, set, ap, ◌∙◌, arith}
use Rattle.rart_maps.proofs.ByteIndexLemmas.{index_without, slots_without}
use Rattle.rart_maps.proofs.mapping.byte_index.ByteIndex.erase.Goals as goal

pub invariant_of-self : goal.invariant_of-self
invariant_of-self c = index_without c.self.invariant _ c.args.byte (omega (arith, c.ranges.byte.fits)) c.unset.ensures

pub returns-clause-new : goal.returns-clause-new
returns-clause-new c = slots_without c.self.invariant c.unset.new.self.words c.args.byte
    (omega (arith, c.ranges.byte.fits)) ∙ ap (λ os. set os c.args.byte None) c.self.view_is
