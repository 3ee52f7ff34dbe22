use Rattle.std.proofs.Common.{arith, true}
use Rattle.rart_nodes.proofs.ranges.LongBounds.{from-cut, from-excluded}
use Rattle.rart_nodes.proofs.node.range.short_start.Goals as goal

pub returns-else-bytes-longest : goal.returns-else-bytes-longest
returns-else-bytes-longest g c = λ k l. rw (c.in-Included.is, c.first_bytes-key.ensures)
    (from-cut true c.args.longest c.in-Included.bytes.now k l (omega (arith, c.if-bytes-longest.false)))

pub returns-in-Excluded : goal.returns-in-Excluded
returns-in-Excluded g c = λ k l. rw (c.in-Excluded.is, c.first_bytes.ensures)
    (from-excluded c.args.longest c.in-Excluded.bytes.now k l)
