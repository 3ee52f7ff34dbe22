use Rattle.std.proofs.Common.{◌*◌, ◌≤◌, ◌∷◌, [], length, subst, sym}
use Rattle.rart_cidr.specs.Routes.{coded_network}
use Rattle.rart_cidr.proofs.walks.LastLemmas.{first-stored, stored-width}
use Rattle.rart_cidr.proofs.network_table.NetworkTable.late.Goals as goal

pub at_code-requires-clause-width : goal.at_code-requires-clause-width
at_code-requires-clause-width g c =
    subst (λ z. length (coded_network z (c.in-Some.code ∷ [])) ≤ 8 * g.N.Network.address_len) (sym c.as_ref.ensures)
    (stored-width (8 * g.N.Network.address_len) _ _ c.self.inside.routes c.self.invariant c.in-Some.ensures.stored)

pub returns-in-None : goal.returns-in-None
returns-in-None g c = first-stored g.N.Network.bits c.args.self.now c.first.result c.ascends.ensures c.first.ensures
