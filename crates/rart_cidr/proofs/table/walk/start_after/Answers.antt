use Rattle.std.proofs.Common.{◌∙◌}
use Rattle.rart_cidr.proofs.walks.StartLemmas.{start_whole, start_within}
use Rattle.rart_cidr.proofs.table.walk.start_after.Goals as goal

pub returns-then-bits-eq0 : goal.returns-then-bits-eq0
returns-then-bits-eq0 g c = start_whole c.args.octets.now (g.K.KeyTrait.bytes c.new_from_slice.result) c.args.bits
    (λ k. (c.type_inv.octets k).fits) c.requires.bits c.if-bits-eq0.true
    (c.new_from_slice.ensures ∙ c.first_octets.ensures)

pub returns-else-bits-eq0 : goal.returns-else-bits-eq0
returns-else-bits-eq0 g c = start_within c.args.octets.now
    (g.K.KeyTrait.bytes c.new_from_slice-else-bits-eq0.result) c.args.bits
    (λ k. (c.type_inv.octets k).fits) c.requires.bits c.if-bits-eq0.false
    (c.new_from_slice-else-bits-eq0.ensures ∙ c.first_octets-else-bits-eq0.ensures) c.requires.clear
