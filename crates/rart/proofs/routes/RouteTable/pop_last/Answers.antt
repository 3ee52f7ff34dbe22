use Rattle.rart.proofs.routes.RouteTable.pop_last.Goals as goal

pub returns-clause-memory : goal.returns-clause-memory
returns-clause-memory g c = rw (← c.self.view_is) c.pop_last.ensures.memory
