use Rattle.std.proofs.Common.{◌*◌, ◌≤◌, length, arith, sym}
use Rattle.rart_cidr.proofs.networks.NetworkLemmas.{network-length}
use Rattle.rart_cidr.proofs.cidr.Cidr.len.Goals as goal

pub returns-clause-value : goal.returns-clause-value
returns-clause-value g c =
    let net = c.args.self.now in
    sym (network-length net.octets net.len (let enough : net.len ≤ 8 * length net.octets
    = omega (arith, net.within, net.full_width) in enough))
