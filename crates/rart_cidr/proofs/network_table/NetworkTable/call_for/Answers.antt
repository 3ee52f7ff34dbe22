use Rattle.std.proofs.Common.{rules, of_calls, ◌≡◌, ◌∙◌}
use Rattle.rart_cidr.proofs.network_table.NetworkTable.call_for.Goals as goal

pub returns : goal.returns
returns g c = λ t h.
    let s = c.in-Some.ensures.value ∙ h in
    let e : t ≡ c.in-Some.target.now = cc in
    rw e (c.f.new.arg3, search (rules, of_calls), rw c.in-Some.is at c.get_mut.follows.holds c.f.new.arg3)
