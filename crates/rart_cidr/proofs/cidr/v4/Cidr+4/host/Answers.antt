use Rattle.std.proofs.Common.{take, ap, sym, ◌∙◌}
use Rattle.std.proofs.Math.Seq.{take-length}
use Rattle.std.specs.Net.Addr.{ipv4_octets}
use Rattle.rart_cidr.specs.Bits.{bits_of}
use Rattle.rart_cidr.proofs.cidr.v4.Cidr+4.host.Goals as goal

pub returns : goal.returns
returns c =
    let all = bits_of (ipv4_octets c.args.addr) in
    c.masked.ensures.value ∙ ap (λ n. take n all) (sym c.masked.ensures.width) ∙ take-length all
