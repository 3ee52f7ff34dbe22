use Rattle.std.proofs.Common.{◌∙◌, ap, arith}
use Rattle.std.specs.Net.Addr.{octets_of}
use Rattle.rart_c.proofs.Networks.{octets-again}
use Rattle.rart_c.proofs.addresses.ipv6_of.Goals as goal

pub returns : goal.returns
returns c =
    ap octets_of c.from_octets.ensures
    ∙ octets-again c.args.bytes.now c.fits-bytes (omega (arith, c.told-bytes))
