use Rattle.std.proofs.Common.{arith}
use Rattle.rart_maps.proofs.ByteIndexLemmas.{read_none, read_slot}
use Rattle.rart_maps.proofs.mapping.byte_index.ByteIndex.get.Goals as goal

pub returns-then-slot : goal.returns-then-slot
returns-then-slot c = rw (← c.self.view_is)
    (read_none c.self.invariant c.args.byte (omega (arith, c.ranges.byte.fits)) c.if-slot.true)

pub returns-else-slot : goal.returns-else-slot
returns-else-slot c = rw (← c.self.view_is)
    (read_slot c.self.invariant c.args.byte (omega (arith, c.ranges.byte.fits)) c.if-slot.false)
