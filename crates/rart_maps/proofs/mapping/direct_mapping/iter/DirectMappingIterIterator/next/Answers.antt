use Rattle.std.proofs.Common.{subst}
use Rattle.rart_maps.specs.Direct.{AreFilled}
use Rattle.rart_maps.proofs.DirectPlaces.{filled_some}
use Rattle.rart_maps.proofs.mapping.direct_mapping.iter.DirectMappingIterIterator.next.Goals as goal

pub get-requires : goal.get-requires
get-requires g c =
    let full = subst (AreFilled c.self.inside.slots.items) c.in-Some.ensures.steps c.self.invariant in
    filled_some c.self.inside.slots.items c.in-Some.byte full.1
