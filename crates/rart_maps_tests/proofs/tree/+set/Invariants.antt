use Rattle.std.proofs.Common.{length}
use Rattle.rart_maps_tests.proofs.tree.+set.Given as goal

abbrev pub decreases-set : goal.decreases-set
decreases-set l = length l.path.now
