use Rattle.std.proofs.Common.{true, ap, ◌∙◌}
use Rattle.std.specs.Prelude.{slice_get}
use Rattle.rart_keys.specs.Ranges.{pairs_from}
use Rattle.rart_cidr.proofs.walks.FilterLemmas.{from_nothing}
use Rattle.rart_cidr.proofs.network_table.NetworkTable.first.Goals as goal

pub returns : goal.returns
returns g c = c.first_at_or_after.ensures ∙ ap (λ z. slice_get (pairs_from true z c.args.self.now) 0) c.whole.ensures
    ∙ ap (λ z. slice_get z 0) (from_nothing c.args.self.now)
