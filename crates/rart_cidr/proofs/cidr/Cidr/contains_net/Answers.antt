use Rattle.std.proofs.Common.{◌≡◌, ◌≤◌, ◌<◌, length, arith, sym, ap, ◌∙◌}
use Rattle.std.specs.Prelude.{nat_le, false}
use Rattle.std.proofs.lemmas.Bool.Decides.{nat_tests}
use Rattle.rart_keys.specs.ByteStrings.{begins}
use Rattle.rart_cidr.specs.Networks.{cidr_bits}
use Rattle.rart_cidr.proofs.networks.NetworkLemmas.{begins-longer, begins-padded, network-length}
use Rattle.rart_cidr.proofs.cidr.Cidr.contains_net.Goals as goal

pub returns-then-self-net : goal.returns-then-self-net
returns-then-self-net g c =
    let p = c.args.self.now in let q = c.args.net.now in
    let long : length (cidr_bits p) ≡ p.len = network-length p.octets p.len (omega (arith, p.within, p.full_width)) in
    let wide : length (cidr_bits q) ≡ q.len = network-length q.octets q.len (omega (arith, q.within, q.full_width)) in
    c.begins.ensures ∙ ap (begins (cidr_bits p)) c.octets.ensures.padded
    ∙ begins-padded (cidr_bits p) (cidr_bits q) _ (let h : length (cidr_bits p) ≤ length (cidr_bits q)
    = omega (arith, long, wide, c.if-self-net.true) in h)

pub returns-else-self-net : goal.returns-else-self-net
returns-else-self-net g c =
    let p = c.args.self.now in let q = c.args.net.now in
    let long : length (cidr_bits p) ≡ p.len = network-length p.octets p.len (omega (arith, p.within, p.full_width)) in
    let wide : length (cidr_bits q) ≡ q.len = network-length q.octets q.len (omega (arith, q.within, q.full_width)) in
    let no : nat_le p.len q.len ≡ false = grind (arith, nat_tests, c.if-self-net.false) in
    no ∙ sym (begins-longer (cidr_bits p) (cidr_bits q) (let h : length (cidr_bits q) < length (cidr_bits p)
    = omega (arith, long, wide, c.if-self-net.false) in h))
