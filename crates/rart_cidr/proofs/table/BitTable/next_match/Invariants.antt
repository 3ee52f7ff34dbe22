use Rattle.std.proofs.Common.{◌≤◌, ◌+◌, ◌-◌}
use Rattle.rart_cidr.specs.Matches.{HasNoneBetween}
use Rattle.rart_cidr.proofs.table.BitTable.next_match.Given as goal

abbrev pub invariant-loop-from : goal.invariant-loop-from
invariant-loop-from g l = (l.low ≤ l.from) × HasNoneBetween l.self l.octets l.bits l.low l.from

abbrev pub decreases-loop-from : goal.decreases-loop-from
decreases-loop-from g l = l.bits + 1 - l.from
