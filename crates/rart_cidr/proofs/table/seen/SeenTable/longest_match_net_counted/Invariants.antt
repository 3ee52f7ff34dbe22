use Rattle.std.proofs.Common.{◌≤◌, ◌+◌, ◌*◌, ◌/◌}
use Rattle.rart_cidr.specs.Longest.{HasNoneFrom, nodes_to}
use Rattle.rart_cidr.proofs.table.seen.SeenTable.longest_match_net_counted.Given as goal

abbrev pub invariant-loop-at : goal.invariant-loop-at
invariant-loop-at g l = record {
  within : l.at ≤ l.bits / 8 + 1;
  none : HasNoneFrom l.self l.octets l.bits (8 * l.at);
  nodes : g.C.Count.number l.nodes + nodes_to l.at ≤ g.C.Count.number l.fn.nodes + nodes_to (l.bits / 8 + 1);
  strides : g.C.Count.number l.strides + l.at ≤ g.C.Count.number l.fn.strides + (l.bits / 8 + 1);
}

abbrev pub decreases-loop-at : goal.decreases-loop-at
decreases-loop-at g l = l.at
