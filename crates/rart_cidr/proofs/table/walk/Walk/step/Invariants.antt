use Rattle.std.proofs.Common.{◌≡◌}
use Rattle.rart_cidr.proofs.table.walk.Walk.step.Given as goal

abbrev pub invariant-loop-key : goal.invariant-loop-key
invariant-loop-key g l = l.self.0 ≡ l.fn.self.0

abbrev pub decreases-loop-key : goal.decreases-loop-key
decreases-loop-key g l = l.self.1
