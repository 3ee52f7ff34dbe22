use Rattle.std.proofs.Common.{◌≡◌, ◌++◌, length}
use Rattle.rart.specs.Migrations.{with_zeros}
use Rattle.rart.proofs.tree.bulk.migrate.read_texts.Given as goal

abbrev pub invariant-loop-key : goal.invariant-loop-key
invariant-loop-key g l = record { pairs : l.old.pairs ≡ with_zeros l.loader ++ l.rest }

abbrev pub decreases-loop-key : goal.decreases-loop-key
decreases-loop-key g l = length l.rest
