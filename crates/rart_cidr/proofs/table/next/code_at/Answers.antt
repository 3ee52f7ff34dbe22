use Rattle.std.proofs.Common.{arith, refl, subst, sym}
use Rattle.rart_cidr.specs.Walks.{IsCodeFrom}
use Rattle.rart_cidr.proofs.walks.NextLemmas.{from_all, from_fewer}
use Rattle.rart_cidr.proofs.table.next.code_at.Goals as goal

pub returns-then-at-octets : goal.returns-then-at-octets
returns-then-at-octets c = subst (λ z. IsCodeFrom c.args.octets.now c.args.code z c.args.code)
    (sym c.if-at-octets.true) (from_all c.args.octets.now c.args.code c.requires.code)

pub returns-else-at-octets : goal.returns-else-at-octets
returns-else-at-octets c = subst (λ z. IsCodeFrom c.args.octets.now c.args.code c.args.at z)
    (sym c.code_of.ensures.value) (from_fewer c.args.octets.now c.args.code c.args.at _
    (λ k. (c.type_inv.octets k).fits) (omega (arith, c.requires.at, c.if-at-octets.false)) refl)
