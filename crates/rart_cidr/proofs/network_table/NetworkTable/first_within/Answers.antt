use Rattle.std.proofs.Common.{sym, ◌∙◌}
use Rattle.rart_cidr.proofs.routes.RemovalLemmas.{within-found, within-none, within-outside}
use Rattle.rart_cidr.proofs.network_table.NetworkTable.first_within.Goals as goal

pub returns-then-contains_net : goal.returns-then-contains_net
returns-then-contains_net g c = within-found (g.N.Network.bits c.args.net.now) c.args.self.now c.ascends.ensures
    (g.N.Network.bits c.in-Some.found) c.in-Some.ensures (sym c.contains_net.ensures ∙ c.if-contains_net.true)

pub returns-else-contains_net : goal.returns-else-contains_net
returns-else-contains_net g c = within-outside (g.N.Network.bits c.args.net.now) c.args.self.now c.ascends.ensures
    (g.N.Network.bits c.in-Some.found) c.in-Some.ensures (sym c.contains_net.ensures ∙ c.if-contains_net.false)

pub returns-in-None : goal.returns-in-None
returns-in-None g c = within-none (g.N.Network.bits c.args.net.now) c.args.self.now c.ascends.ensures c.in-None.ensures
