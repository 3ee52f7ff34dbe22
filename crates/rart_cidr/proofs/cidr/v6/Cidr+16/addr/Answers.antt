use Rattle.std.proofs.Common.{arith, ap, ◌∙◌}
use Rattle.rart_cidr.specs.Bits.{bits_of}
use Rattle.std.specs.Net.Addr.{octets_of}
use Rattle.rart_cidr.proofs.networks.NetworkLemmas.{segments-octets}
use Rattle.rart_cidr.proofs.cidr.v6.Cidr+16.addr.Goals as goal

pub returns : goal.returns
returns c =
    let octets = c.octets.result.now in let e = c.octets.ensures in
    ap (λ z. bits_of (octets_of z)) c.from_octets.ensures
    ∙ ap bits_of (segments-octets octets e.bytes (omega (arith, e.width))) ∙ e.padded
