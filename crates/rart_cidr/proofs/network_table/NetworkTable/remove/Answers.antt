use Rattle.std.proofs.Common.{◌*◌}
use Rattle.rart_cidr.specs.Bits.{network}
use Rattle.rart_cidr.proofs.routes.WidthLemmas.{remove_within}
use Rattle.rart_cidr.proofs.network_table.NetworkTable.remove.Goals as goal

pub invariant_of-self : goal.invariant_of-self
invariant_of-self g c =
    remove_within (8 * g.N.Network.address_len) (network c.octets.result.now c.from.result) c.self.inside.routes
    c.remove.new.self c.remove.result c.remove.ensures c.self.invariant
