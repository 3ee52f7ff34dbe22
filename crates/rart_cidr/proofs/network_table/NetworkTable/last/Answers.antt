use Rattle.rart_cidr.proofs.walks.LastLemmas.{among-next, among-stored, is-last}
use Rattle.rart_cidr.proofs.network_table.NetworkTable.last.Goals as goal

pub loop-next-init : goal.loop-next-init
loop-next-init g c = among-stored c.ascends.ensures c.in-Some.ensures

pub loop-next-smaller : goal.loop-next-smaller
loop-next-smaller g c = (among-next c.ascends.ensures c.loop-next.invariant c.in-Some-first_after.ensures).1

pub loop-next-preserved : goal.loop-next-preserved
loop-next-preserved g c = (among-next c.ascends.ensures c.loop-next.invariant c.in-Some-first_after.ensures).0

pub returns : goal.returns
returns g c = is-last c.ascends.ensures c.loop-next.invariant c.in_default-first_after.ensures
