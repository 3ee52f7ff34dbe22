use Rattle.std.proofs.Common.{◌≡◌, ◌∙◌}
use Rattle.rart_cidr.proofs.table.take_from.Goals as goal

pub returns : goal.returns
returns g c = λ s h.
    let t = c.in-Some.ensures.value ∙ h in
    let e : s ≡ c.in-Some.stride.now = cc in
    rw e (
      c.remove.new.self,
      (rw c.in-Some.is at c.get_mut_k.follows.holds c.remove.new.self).0,
      (c.remove.ensures.value, c.remove.ensures.removed),
    )
