use Rattle.std.proofs.Common.{arith, ◌∙◌}
use Rattle.rart_cidr.proofs.routes.EqualLemmas.{same-bits}
use Rattle.rart_cidr.proofs.network_table.equal.is_same_net.Goals as goal

pub returns-then-len : goal.returns-then-len
returns-then-len g c = let one = c.len.ensures.value in let two = c.len-2.ensures.value in let same = c.if-len.true in
    c.contains_net.ensures ∙ same-bits (g.N.Network.bits c.args.net.now) (g.N.Network.bits c.args.other.now)
    (omega (arith, one, two, same))
