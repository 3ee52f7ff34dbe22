use Rattle.std.proofs.Common.{length, ◌≤◌}
use Rattle.rart_tests.proofs.loads.inserted.Given as goal

abbrev pub invariant-loop-place : goal.invariant-loop-place
invariant-loop-place l = l.place ≤ length l.keys

abbrev pub decreases-loop-place : goal.decreases-loop-place
decreases-loop-place l = l.place
