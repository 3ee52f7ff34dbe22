use Rattle.std.proofs.Common.{arith}
use Rattle.rart_cidr.proofs.walks.MatchLemmas.{has_no_next, is_next}
use Rattle.rart_cidr.proofs.table.BitTable.next_match.Goals as goal

pub returns-in-Some-clause-value : goal.returns-in-Some-clause-value
returns-in-Some-clause-value g c = is_next c.args.self.now c.args.octets.now c.args.bits c.args.low c.loop-from.from
    c.in-Some.count c.in-Some.target.now c.requires.bits c.ascends.ensures c.loop-from.invariant.0
    c.loop-from.invariant.1 c.in-Some.ensures

pub returns-clause-value : goal.returns-clause-value
returns-clause-value g c = has_no_next c.args.self.now c.args.octets.now c.args.bits c.args.low c.loop-from.from
    c.requires.bits (omega arith) c.loop-from.invariant.1
