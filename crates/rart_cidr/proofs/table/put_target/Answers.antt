use Rattle.rart_cidr.proofs.routes.EditLemmas.{puts-in}
use Rattle.rart_cidr.proofs.table.put_target.Goals as goal

pub returns-in-Some : goal.returns-in-Some
returns-in-Some g c = puts-in _ _ _ _ _ _ _ c.canonical.ensures.ascending c.in-Some.ensures c.put_in.ensures
