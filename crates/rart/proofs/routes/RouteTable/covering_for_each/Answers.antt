use Rattle.rart.proofs.routes.RouteTable.covering_for_each.Goals as goal

pub prefix_match_for_each_k-requires : goal.prefix_match_for_each_k-requires
prefix_match_for_each_k-requires g c = record { callable = rw c.self.view_is c.requires.callable }

pub returns : goal.returns
returns g c = rw (← c.self.view_is) c.prefix_match_for_each_k.ensures
