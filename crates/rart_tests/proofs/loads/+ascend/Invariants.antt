use Rattle.std.proofs.Common.{length}
use Rattle.rart_tests.proofs.loads.+ascend.Given as goal

abbrev pub decreases-ascend : goal.decreases-ascend
decreases-ascend g l = length l.items.now
