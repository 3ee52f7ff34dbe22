use Rattle.std.proofs.Common.{length}
use Rattle.rart.specs.Appends.{Moves}
use Rattle.rart.proofs.tree.AdaptiveRadixTree.append.Given as goal

abbrev pub invariant-pairs : goal.invariant-pairs
invariant-pairs g l = Moves l.fn.self.pairs l.fn.other.pairs l.self.pairs l.other.pairs

abbrev pub decreases-pairs : goal.decreases-pairs
decreases-pairs g l = length l.other.pairs
