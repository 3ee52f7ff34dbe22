use Rattle.std.proofs.Common.{arith}
use Rattle.rart_block.proofs.Last.{last_popped}
use Rattle.rart_block.proofs.block.Block.pop.Goals as goal

pub returns : goal.returns
returns g c = last_popped _ _ _ c.remove.result (omega arith) c.remove.ensures.taken c.remove.ensures.rest
