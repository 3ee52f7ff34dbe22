use Rattle.std.proofs.Common.{◌∙◌, ap, arith}
use Rattle.rart_cidr.specs.Bits.{network}
use Rattle.rart_cidr.proofs.networks.BitLemmas.{length-bits}
use Rattle.rart_cidr.proofs.networks.NetworkLemmas.{masked_octets-bytes, masked_octets-clear, masked_octets-first}
use Rattle.rart_cidr.proofs.networks.NetworkLemmas.{masked_octets-length}
use Rattle.rart_cidr.proofs.cidr.Cidr.masked_octets.Goals as goal

pub invariant_of-result : goal.invariant_of-result
invariant_of-result g c =
    let e = c.cleared_octets-octets.ensures in let o = c.args.octets.now in
    rw (e.value) (record {
      narrow = c.requires.narrow;
      within = c.requires.within;
      full_width = masked_octets-length o c.args.len ∙ e.width;
      are_bytes = masked_octets-bytes o c.args.len e.bytes;
      clear = masked_octets-clear o c.args.len e.bytes;
    })

pub returns-clause-value : goal.returns-clause-value
returns-clause-value g c =
    let e = c.cleared_octets-octets.ensures in
    ap (λ z. network z c.args.len) e.value ∙ masked_octets-first c.args.octets.now c.args.len e.bytes

pub returns-clause-width : goal.returns-clause-width
returns-clause-width g c = omega (arith, length-bits c.args.octets.now, c.cleared_octets-octets.ensures.width)
