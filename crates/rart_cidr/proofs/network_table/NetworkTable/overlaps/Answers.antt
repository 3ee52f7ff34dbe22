use Rattle.rart_cidr.proofs.routes.RemovalLemmas.{overlap-covered, overlap-inside}
use Rattle.rart_cidr.proofs.network_table.NetworkTable.overlaps.Goals as goal

pub returns-in-None : goal.returns-in-None
returns-in-None g c = overlap-inside g.N.Network.bits (g.N.Network.bits c.args.net.now) c.args.self.now
    c.first_within.result c.is_some.result c.is_some.ensures c.in-None.ensures.value c.first_within.ensures

pub returns-in-Some : goal.returns-in-Some
returns-in-Some g c = overlap-covered (g.N.Network.bits c.args.net.now) c.args.self.now _ c.in-Some.ensures.value
