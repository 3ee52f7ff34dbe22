use Rattle.rart_cidr.proofs.routes.EditLemmas.{get-none, get-some}
use Rattle.rart_cidr.proofs.table.BitTable.get.Goals as goal

pub returns-in-Some : goal.returns-in-Some
returns-in-Some g c = rw (← c.self.view_is)
    (get-some _ c.args.octets.now c.args.bits c.canonical.ensures.ascending c.self.invariant.formed
    (λ k. (c.type_inv.octets k).fits) c.requires _ _ _ _ _ c.first_octets.ensures c.in-Some.ensures c.octet_at.ensures
    c.code_of.ensures.value c.get.ensures)

pub returns-in-None : goal.returns-in-None
returns-in-None g c = rw (← c.self.view_is)
    (get-none _ c.args.octets.now c.args.bits c.canonical.ensures.ascending c.self.invariant.formed
    (λ k. (c.type_inv.octets k).fits) c.requires _ c.first_octets.ensures c.in-None.ensures)
