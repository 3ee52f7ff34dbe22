use Rattle.std.proofs.Common.{length}
use Rattle.rart_maps_tests.proofs.tree.+find.Given as goal

abbrev pub decreases-find : goal.decreases-find
decreases-find l = length l.path.now
