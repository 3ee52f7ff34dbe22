use Rattle.std.proofs.Common.{◌≡◌, ◌≤◌, ◌*◌, length, arith, ap, subst, sym}
use Rattle.rart_cidr.specs.Bits.{AreClearAfter, bits_of, network}
use Rattle.rart_cidr.proofs.networks.BitLemmas.{length-bits}
use Rattle.rart_cidr.proofs.networks.NetworkLemmas.{network-length, network-padded}
use Rattle.rart_cidr.proofs.cidr.Cidr.octets.Goals as goal

pub returns-clause-value : goal.returns-clause-value
returns-clause-value g c =
    let net = c.args.self.now in
    ap (network net.octets) (network-length net.octets net.len (let enough : net.len ≤ 8 * length net.octets
    = omega (arith, net.within, net.full_width) in enough))

pub returns-clause-padded : goal.returns-clause-padded
returns-clause-padded g c =
    let net = c.args.self.now in
    network-padded net.octets net.len (8 * g.row.N) (let all : length (bits_of net.octets) ≡ 8 * g.row.N
    = omega (arith, net.full_width, length-bits net.octets) in all) net.within net.clear

pub returns-clause-clear : goal.returns-clause-clear
returns-clause-clear g c =
    let net = c.args.self.now in
    subst (λ z. AreClearAfter (bits_of net.octets) z)
    (sym (network-length net.octets net.len (let enough : net.len ≤ 8 * length net.octets
    = omega (arith, net.within, net.full_width) in enough))) net.clear
