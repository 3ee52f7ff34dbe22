use Rattle.std.proofs.Common.{length}
use Rattle.rart_maps.proofs.mapping.direct_mapping.DirectMapping.drop.Given as goal

abbrev pub decreases-loop-child : goal.decreases-loop-child
decreases-loop-child g l = length l.self.entries
