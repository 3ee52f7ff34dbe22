use Rattle.std.proofs.Common.{◌≤◌, ◌+◌}
use Rattle.rart_cidr.specs.Longest.{HasNoneFrom}
use Rattle.rart_cidr.proofs.table.BitTable.longest_by_lengths.Given as goal

abbrev pub invariant-loop-count : goal.invariant-loop-count
invariant-loop-count g l = (l.count ≤ l.bits) × HasNoneFrom l.self l.octets l.bits (l.count + 1)

abbrev pub decreases-loop-count : goal.decreases-loop-count
decreases-loop-count g l = l.count
