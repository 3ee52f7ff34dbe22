use Rattle.std.proofs.Common.{ap, refl}
use Rattle.rart_cidr.proofs.routes.LoanLemmas.{on_some}
use Rattle.rart_cidr.proofs.cidr_table.CidrTable.get_mut.Goals as goal

pub returns-in-V4 : goal.returns-in-V4
returns-in-V4 g c = rw (← c.self.view_is, c.in-V4.is) (
  (
    refl,
    λ w. on_some c.get_mut.result (ap (λ z. (z, c.self.inside.v6))) (c.get_mut.follows.holds w),
    ap (λ z. (z, c.self.inside.v6)) c.get_mut.follows.holds-at-none,
  ),
  record { writes_back = tt; value = c.get_mut.ensures.value },
)

pub returns-in-V6 : goal.returns-in-V6
returns-in-V6 g c = rw (← c.self.view_is, c.in-V6.is) (
  (
    refl,
    λ w. on_some c.get_mut-in-V6.result (ap (λ z. (c.self.inside.v4, z))) (c.get_mut-in-V6.follows.holds w),
    ap (λ z. (c.self.inside.v4, z)) c.get_mut-in-V6.follows.holds-at-none,
  ),
  record { writes_back = tt; value = c.get_mut-in-V6.ensures.value },
)
