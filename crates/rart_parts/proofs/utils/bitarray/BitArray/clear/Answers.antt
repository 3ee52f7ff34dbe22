use Rattle.std.proofs.Common.{◌∙◌, arith}
use Rattle.rart_parts.proofs.PlaceLemmas.{freed_more, all_free, array_of}
use Rattle.std.proofs.lemmas.List.{length-set}
use Rattle.rart_parts.proofs.utils.bitarray.BitArray.clear.Goals as goal

pub loop-position-preserved : goal.loop-position-preserved
loop-position-preserved g c = (
  length-set _ _ _
      ∙ c.loop-position.invariant.0,
  freed_more _ _ c.loop-position.invariant.1,
)

pub invariant_of-self : goal.invariant_of-self
invariant_of-self g c = array_of (g.B.BitsetTrait.has c.clear.new.self) _ c.loop-position.invariant.0
    c.self.invariant.covers c.self.invariant.fits c.clear.ensures

pub returns : goal.returns
returns g c = all_free c.loop-position.self-inside.places.items g.row.RANGE_WIDTH c.loop-position.invariant.0
    (λ k h. c.loop-position.invariant.1 k (omega (arith, h, c.loop-position-test.false)))
