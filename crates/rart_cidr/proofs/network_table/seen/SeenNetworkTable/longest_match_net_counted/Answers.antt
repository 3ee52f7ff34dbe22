use Rattle.std.proofs.Common.{◌+◌, ◌/◌, ◌≤◌, arith}
use Rattle.rart_cidr.specs.Longest.{nodes_to}
use Rattle.rart_cidr.proofs.walks.LongestLemmas.{nodes_to-more}
use Rattle.rart_cidr.proofs.network_table.seen.SeenNetworkTable.longest_match_net_counted.Goals as goal

pub returns-in-Some-clause-node_visits : goal.returns-in-Some-clause-node_visits
returns-in-Some-clause-node_visits g c =
    let most : nodes_to (c.from-bits.result / 8 + 1) ≤ nodes_to (g.N.Network.address_len + 1)
    = nodes_to-more (c.from-bits.result / 8 + 1) (g.N.Network.address_len + 1)
    (omega (arith, c.from-bits.ensures, c.len.ensures.at_most)) in
    omega (arith, most, c.longest_match_net_counted.ensures.node_visits)

pub returns-in-None-clause-node_visits : goal.returns-in-None-clause-node_visits
returns-in-None-clause-node_visits g c =
    let most : nodes_to (c.from-bits.result / 8 + 1) ≤ nodes_to (g.N.Network.address_len + 1)
    = nodes_to-more (c.from-bits.result / 8 + 1) (g.N.Network.address_len + 1)
    (omega (arith, c.from-bits.ensures, c.len.ensures.at_most)) in
    omega (arith, most, c.longest_match_net_counted.ensures.node_visits)
