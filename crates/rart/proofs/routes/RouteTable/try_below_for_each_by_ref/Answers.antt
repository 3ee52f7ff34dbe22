use Rattle.rart.proofs.routes.RouteTable.try_below_for_each_by_ref.Goals as goal

pub try_prefix_for_each_view_by_ref_k-requires : goal.try_prefix_for_each_view_by_ref_k-requires
try_prefix_for_each_view_by_ref_k-requires g c = record { callable = rw c.self.view_is c.requires.callable }

pub returns-clause-calls : goal.returns-clause-calls
returns-clause-calls g c = rw (← c.self.view_is) c.try_prefix_for_each_view_by_ref_k.ensures.calls
