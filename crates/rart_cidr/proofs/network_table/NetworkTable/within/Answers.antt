use Rattle.std.proofs.Common.{◌*◌, ◌≡◌, true, ap, subst, sym, ◌∙◌}
use Rattle.rart_keys.specs.Ranges.{is_from_bound, pairs_from}
use Rattle.rart_cidr.specs.Bits.{network}
use Rattle.rart_cidr.specs.Walks.{AreWithin, up_to_outside}
use Rattle.rart_cidr.proofs.walks.FilterLemmas.{up_to_outside_is, within_filter}
use Rattle.rart_cidr.proofs.network_table.NetworkTable.within.Goals as goal

pub invariant_of-result : goal.invariant_of-result
invariant_of-result g c =
    let q = network c.octets.result.now c.from.result in let w = 8 * g.N.Network.address_len in
    subst (AreWithin w) (sym c.in_ok-walk.ensures.routes)
    (within_filter (is_from_bound true q) w c.self.inside.routes c.self.invariant)

pub returns-clause-routes : goal.returns-clause-routes
returns-clause-routes g c =
    let n : network c.octets.result.now c.from.result ≡ g.N.Network.bits c.args.net.now
    = ap (network c.octets.result.now) (c.from.ensures ∙ c.len.ensures.value) ∙ c.octets.ensures.value in
    ap (up_to_outside (g.N.Network.bits c.args.net.now)) (c.in_ok-walk.ensures.routes
    ∙ ap (pairs_from true (network c.octets.result.now c.from.result)) c.self.view_is
    ∙ ap (λ z. pairs_from true z c.args.self.now) n)
    ∙ up_to_outside_is (g.N.Network.bits c.args.net.now) c.args.self.now c.ascends.ensures
