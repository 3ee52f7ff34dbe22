use Rattle.rart.proofs.routes.RouteTable.below_for_each_by_ref.Goals as goal

pub prefix_for_each_view_by_ref_k-requires : goal.prefix_for_each_view_by_ref_k-requires
prefix_for_each_view_by_ref_k-requires g c = record { callable = rw c.self.view_is c.requires.callable }

pub returns-clause-calls : goal.returns-clause-calls
returns-clause-calls g c = rw (← c.self.view_is) c.prefix_for_each_view_by_ref_k.ensures.calls
