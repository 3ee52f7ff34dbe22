use Rattle.std.proofs.Common.{◌∙◌}
use Rattle.rart_cidr.proofs.routes.EditLemmas.{takes-from}
use Rattle.rart_cidr.proofs.table.take_target.Goals as goal

pub returns-else-len-eq1 : goal.returns-else-len-eq1
returns-else-len-eq1 g c = takes-from _ _ _ _ _ _ _ c.canonical.ensures.ascending c.ascends.ensures c.in-Some.ensures
    c.in-Some-get.ensures (λ m. c.if-len-eq1.false (c.len.ensures ∙ m)) c.take_from.ensures
