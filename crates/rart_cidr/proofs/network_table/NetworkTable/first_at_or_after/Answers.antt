use Rattle.std.proofs.Common.{ap, sym, ◌∙◌}
use Rattle.std.specs.Prelude.{slice_get}
use Rattle.rart_cidr.proofs.walks.FilterLemmas.{from_not_stored, from_stored}
use Rattle.rart_cidr.proofs.network_table.NetworkTable.first_at_or_after.Goals as goal

pub returns-in-Some : goal.returns-in-Some
returns-in-Some g c = ap (λ z. slice_get z 0) (sym (from_stored (g.N.Network.bits c.args.net.now) c.in-Some.target.now
    c.args.self.now c.ascends.ensures (sym c.in-Some.ensures)))

pub returns-in-None : goal.returns-in-None
returns-in-None g c = c.first_after.ensures ∙ ap (λ z. slice_get z 0) (sym (from_not_stored
    (g.N.Network.bits c.args.net.now) c.args.self.now c.ascends.ensures (sym c.in-None.ensures)))
