use Rattle.std.proofs.Common.{◌*◌, ◌≡◌, ◌≤◌, ◌∷◌, [], Some, ap, false, length, subst, sym, ◌∙◌}
use Rattle.std.specs.Prelude.{slice_get}
use Rattle.rart_keys.specs.Ranges.{is_from_bound, pairs_from}
use Rattle.rart_cidr.specs.Bits.{network}
use Rattle.rart_cidr.specs.Routes.{coded_network}
use Rattle.rart_cidr.proofs.routes.WidthLemmas.{first_width}
use Rattle.rart_cidr.proofs.walks.FilterLemmas.{within_filter}
use Rattle.rart_cidr.proofs.network_table.NetworkTable.first_after.Goals as goal

pub at_code-requires-clause-width : goal.at_code-requires-clause-width
at_code-requires-clause-width g c =
    let w = 8 * g.N.Network.address_len in let q = network c.octets.result.now c.from.result in
    subst (λ z. length (coded_network z (c.in-Some.code ∷ [])) ≤ w) (sym c.as_ref.ensures)
    (first_width w _ _ (pairs_from false q c.self.inside.routes)
    (within_filter (is_from_bound false q) w c.self.inside.routes c.self.invariant) c.in-Some.ensures.value)

pub returns-in-Some : goal.returns-in-Some
returns-in-Some g c =
    let n : network c.octets.result.now c.from.result ≡ g.N.Network.bits c.args.net.now
    = ap (network c.octets.result.now) (c.from.ensures ∙ c.len.ensures.value) ∙ c.octets.ensures.value in
    let net = c.at_code.ensures ∙ ap (λ z. coded_network z (c.in-Some.code ∷ [])) c.as_ref.ensures in
    ap (λ z. Some (z, c.in-Some.target.now)) net ∙ c.in-Some.ensures.value
    ∙ ap (λ z. slice_get (pairs_from false z c.self.inside.routes) 0) n
    ∙ ap (λ z. slice_get (pairs_from false (g.N.Network.bits c.args.net.now) z) 0) c.self.view_is

pub returns-in-None : goal.returns-in-None
returns-in-None g c =
    let n : network c.octets.result.now c.from.result ≡ g.N.Network.bits c.args.net.now
    = ap (network c.octets.result.now) (c.from.ensures ∙ c.len.ensures.value) ∙ c.octets.ensures.value in
    c.in-None.ensures.value ∙ ap (λ z. slice_get (pairs_from false z c.self.inside.routes) 0) n
    ∙ ap (λ z. slice_get (pairs_from false (g.N.Network.bits c.args.net.now) z) 0) c.self.view_is
