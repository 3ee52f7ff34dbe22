use Rattle.std.proofs.Common.{arith, sym, ◌∙◌}
use Rattle.rart_cidr.proofs.networks.OrderLemmas.{network-order}
use Rattle.rart_cidr.proofs.cidr.Cidr.cmp_bits.Goals as goal

pub returns : goal.returns
returns g c =
    let here = c.args.self.now in let other = c.args.other.now in
    c.cmp.ensures ∙ sym (network-order here.octets other.octets here.len other.len g.row.N here.are_bytes
    other.are_bytes
    here.full_width other.full_width (omega (arith, here.within)) (omega (arith, other.within)) here.clear other.clear)
