use Rattle.std.proofs.Common.{◌*◌, ◌≡◌, ◌≤◌, arith, ap, length, ◌∙◌}
use Rattle.rart_cidr.specs.Bits.{network}
use Rattle.rart_cidr.proofs.routes.WidthLemmas.{insert_within}
use Rattle.rart_cidr.proofs.network_table.NetworkTable.insert.Goals as goal

pub invariant_of-self : goal.invariant_of-self
invariant_of-self g c =
    let n : network c.octets.result.now c.from.result ≡ g.N.Network.bits c.args.net.now
    = ap (network c.octets.result.now) (c.from.ensures ∙ c.len.ensures.value) ∙ c.octets.ensures.value in
    let few : length (network c.octets.result.now c.from.result) ≤ 8 * g.N.Network.address_len
    = omega (arith, ap length n, c.len.ensures.value, c.len.ensures.at_most) in
    insert_within (8 * g.N.Network.address_len) (network c.octets.result.now c.from.result) c.args.target
    c.self.inside.routes c.insert.new.self c.insert.result few c.insert.ensures c.self.invariant
