use Rattle.rart_maps.proofs.DirectLemmas.{direct_start}
use Rattle.rart_maps.proofs.DirectPlaces.{agrees_start}
use Rattle.rart_maps.proofs.mapping.direct_mapping.DirectMapping.with_extra.Goals as goal

pub invariant_of-result : goal.invariant_of-result
invariant_of-result g c = rw c.in-Ok.ensures.ok
    (direct_start g.row.N.Denot, agrees_start g.row.N.Denot c.new.result.words c.new.ensures)
