use Rattle.std.proofs.Common.{◌≡◌, ◌∙◌}
use Rattle.rart_cidr.proofs.table.put_in.Goals as goal

pub returns : goal.returns
returns g c = λ s h.
    let t = c.in-Some.ensures.value ∙ h in
    let e : s ≡ c.in-Some.stride.now = cc in
    rw e (c.insert.new.self, (rw c.in-Some.is at c.get_mut_k.follows.holds c.insert.new.self).0, c.insert.ensures)
