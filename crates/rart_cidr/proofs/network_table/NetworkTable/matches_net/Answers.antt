use Rattle.std.proofs.Common.{ap, ◌∙◌}
use Rattle.rart_keys.specs.Filters.{matches}
use Rattle.rart_cidr.proofs.walks.MatchLemmas.{all_matches}
use Rattle.rart_cidr.proofs.network_table.NetworkTable.matches_net.Goals as goal

pub returns : goal.returns
returns g c = all_matches (g.N.Network.bits c.args.net.now) c.self.inside.routes
    ∙ ap (matches (g.N.Network.bits c.args.net.now)) c.self.view_is
