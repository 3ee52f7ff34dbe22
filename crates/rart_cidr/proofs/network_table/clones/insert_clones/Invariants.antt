use Rattle.std.proofs.Common.{length}
use Rattle.rart_cidr.proofs.routes.CloneLemmas.{Cloning}
use Rattle.rart_cidr.proofs.network_table.clones.insert_clones.Given as goal

abbrev pub invariant-loop-route : goal.invariant-loop-route
invariant-loop-route g l = Cloning g.T.Clone.is_clone l.fn.rest l.rest l.table

abbrev pub decreases-loop-route : goal.decreases-loop-route
decreases-loop-route g l = length l.rest
