use Rattle.std.proofs.Common.{length}
use Rattle.rart_block.proofs.block.Block.drop.Given as goal

abbrev pub decreases-loop-item : goal.decreases-loop-item
decreases-loop-item g l = length l.self.items
