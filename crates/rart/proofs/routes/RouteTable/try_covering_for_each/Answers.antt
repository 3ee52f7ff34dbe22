use Rattle.rart.proofs.routes.RouteTable.try_covering_for_each.Goals as goal

pub try_prefix_match_for_each_k-requires : goal.try_prefix_match_for_each_k-requires
try_prefix_match_for_each_k-requires g c = record { callable = rw c.self.view_is c.requires.callable }

pub returns : goal.returns
returns g c = rw (← c.self.view_is) c.try_prefix_match_for_each_k.ensures
