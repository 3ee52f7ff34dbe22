use Rattle.std.proofs.Common.{◌≡◌, ap, subst, ◌∙◌}
use Rattle.std.specs.Prelude.{IfOk}
use Rattle.rart_keys.specs.Filters.{below}
use Rattle.rart_cidr.proofs.walks.FilterLemmas.{below_nothing}
use Rattle.rart_cidr.proofs.network_table.NetworkTable.within_all.Goals as goal

pub returns-clause-routes : goal.returns-clause-routes
returns-clause-routes g c = subst (λ z. IfOk c.within.result (λ it. it ≡ z))
    (ap (λ z. below z c.args.self.now) c.requires ∙ below_nothing c.args.self.now) c.within.ensures.routes
