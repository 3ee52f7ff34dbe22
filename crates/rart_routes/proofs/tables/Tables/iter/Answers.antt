use Rattle.rart_routes.proofs.FoundLemmas.{none-of-both}
use Rattle.rart_routes.proofs.tables.Tables.iter.Goals as goal

pub returns-in-Ok-clause-memory : goal.returns-in-Ok-clause-memory
returns-in-Ok-clause-memory c = (
  c.in-Err-iter.ensures.memory.0,
  λ h. c.in-Err-iter.ensures.memory.1 (none-of-both c.args.self.now.v4 c.args.self.now.v6 h).1,
)

pub returns-clause-memory : goal.returns-clause-memory
returns-clause-memory c = (
  c.in-Err.ensures.memory.0,
  λ h. c.in-Err.ensures.memory.1 (none-of-both c.args.self.now.v4 c.args.self.now.v6 h).0,
)
