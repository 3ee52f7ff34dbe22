use Rattle.std.proofs.Common.{arith, false}
use Rattle.rart_nodes.proofs.ranges.LongBounds.{to-cut, to-included}
use Rattle.rart_nodes.proofs.node.range.short_end.Goals as goal

pub returns-in-Included : goal.returns-in-Included
returns-in-Included g c = λ k l. rw (c.in-Included.is, c.first_bytes.ensures)
    (to-included c.args.longest c.in-Included.bytes.now k l)

pub returns-else-bytes-longest : goal.returns-else-bytes-longest
returns-else-bytes-longest g c = λ k l. rw (c.in-Excluded.is, c.first_bytes-key.ensures)
    (to-cut false c.args.longest c.in-Excluded.bytes.now k l (omega (arith, c.if-bytes-longest.false)))
