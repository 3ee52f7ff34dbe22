use Rattle.std.proofs.Common.{refl}
use Rattle.rart_nodes.proofs.node.iter.ValuesIterIterator.next.Goals as goal

pub advance-requires : goal.advance-requires
advance-requires g c κs = ((refl, tt), (c.self.invariant.0, c.self.invariant.1))
