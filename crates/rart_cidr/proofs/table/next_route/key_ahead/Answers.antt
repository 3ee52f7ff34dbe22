use Rattle.std.specs.declared.ops.Bound.TheVariants.{Excluded, Included}
use Rattle.rart_cidr.proofs.walks.StartLemmas.{start_whole, start_within}
use Rattle.rart_cidr.proofs.table.next_route.key_ahead.Goals as goal

pub returns-then-bits-eq0 : goal.returns-then-bits-eq0
returns-then-bits-eq0 g c = (
  Excluded c.first_octets.result.now,
  start_whole c.args.octets.now c.first_octets.result.now c.args.bits (λ k. (c.type_inv.octets k).fits) c.requires.bits
      c.if-bits-eq0.true c.first_octets.ensures,
  c.key_after.ensures,
)

pub returns-else-bits-eq0 : goal.returns-else-bits-eq0
returns-else-bits-eq0 g c = (
  Included c.first_octets-else-bits-eq0.result.now,
  start_within c.args.octets.now c.first_octets-else-bits-eq0.result.now c.args.bits
      (λ k. (c.type_inv.octets k).fits) c.requires.bits c.if-bits-eq0.false c.first_octets-else-bits-eq0.ensures
      c.requires.clear,
  c.key_from.ensures,
)
