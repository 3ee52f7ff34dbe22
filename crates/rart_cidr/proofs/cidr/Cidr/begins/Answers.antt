use Rattle.std.proofs.Common.{◌∙◌, sym}
use Rattle.std.proofs.lemmas.Bool.Decides.{Decides-eqb}
use Rattle.std.proofs.lemmas.Slice.Eq.{slice_eq-Decides}
use Rattle.rart_cidr.proofs.networks.NetworkLemmas.{contains-is, width-bits}
use Rattle.rart_cidr.proofs.cidr.Cidr.begins.Goals as goal

pub returns : goal.returns
returns g c =
    let net = c.args.self.now in let e = c.cleared_octets.ensures in
    contains-is c.eq.result net.octets c.args.octets.now net.len net.are_bytes e.bytes (net.full_width
    ∙ sym e.width) net.clear (width-bits net.octets g.row.N net.len net.full_width net.within)
    (rw (← e.value) (slice_eq-Decides Decides-eqb c.cleared_octets.result net.octets c.eq.result c.eq.ensures))
