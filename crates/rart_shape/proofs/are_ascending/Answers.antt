use Rattle.std.proofs.Common.{sym}
use Rattle.rart_shape.proofs.AscendingKeys.{pair-step, pairs-end}
use Rattle.rart_shape.proofs.are_ascending.Goals as goal

pub loop-i-preserved : goal.loop-i-preserved
loop-i-preserved c = pair-step c.loop-i.i c.args.keys.now _ c.loop-i.auto.i c.loop-i-test.true (sym c.in-Less.ensures)
    c.loop-i.invariant

pub returns : goal.returns
returns c = pairs-end c.loop-i.i c.args.keys.now c.loop-i-test.false c.loop-i.invariant
