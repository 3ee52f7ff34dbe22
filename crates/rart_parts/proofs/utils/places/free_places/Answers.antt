use Rattle.rart_parts.proofs.FreedLemmas.{last_valueless, rest_valueless}
use Rattle.rart_parts.proofs.utils.places.free_places.Goals as goal

pub unreachable-requires : goal.unreachable-requires
unreachable-requires g c = last_valueless c.loop-place.rest.items c.pop.new.self.items c.in-Some-place.field-0
    (rw c.in-Some-place.is at c.in-Some.ensures.items) c.loop-place.invariant

pub loop-place-preserved : goal.loop-place-preserved
loop-place-preserved g c = rest_valueless c.loop-place.rest.items c.pop.new.self.items
    (rw c.in-None.is at c.in-Some.ensures.items) c.loop-place.invariant
