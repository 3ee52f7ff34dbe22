use Rattle.rart_cidr.proofs.walks.LongestLemmas.{longest-route}
use Rattle.rart_cidr.proofs.network_table.NetworkTable.longest_match_net.Goals as goal

pub returns-clause-longest_match : goal.returns-clause-longest_match
returns-clause-longest_match g c = longest-route (g.N.Network.bits c.args.net.now) c.args.self.now _ c.ascends.ensures
    (rw c.seen.ensures at c.longest_match_net_counted.ensures.value)
