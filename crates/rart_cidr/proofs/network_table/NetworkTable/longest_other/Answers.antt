use Rattle.std.proofs.Common.{◌-◌, arith, ap, ◌∙◌, None}
use Rattle.rart_keys.specs.Filters.{last_or, longest_match}
use Rattle.rart_cidr.proofs.routes.AggregateLemmas.{no-other, other-matches}
use Rattle.rart_cidr.proofs.network_table.NetworkTable.longest_other.Goals as goal

pub returns-then-len-eq0 : goal.returns-then-len-eq0
returns-then-len-eq0 g c = no-other (g.N.Network.bits c.args.net.now) c.args.self.now
    (let e = c.len-len.ensures.value in let z = c.if-len-eq0.true in omega (arith, e, z))

pub returns-else-len-eq0 : goal.returns-else-len-eq0
returns-else-len-eq0 g c =
    let n = g.N.Network.bits c.args.net.now in
    let e = c.len-len.ensures.value in let z = c.if-len-eq0.false in
    c.longest_match_net.ensures.value ∙ ap (λ q. longest_match q c.args.self.now) c.supernet.ensures
    ∙ ap (last_or None) (other-matches n (c.len-len.result - 1) c.args.self.now (omega (arith, e, z)))
