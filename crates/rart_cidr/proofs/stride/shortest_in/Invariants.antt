use Rattle.std.proofs.Common.{◌≡◌, ℕ, ◌+◌, ◌-◌, ◌<◌, ◌≤◌, None}
use Rattle.rart_cidr.specs.Routes.{in_stride}
use Rattle.rart_cidr.proofs.stride.shortest_in.Given as goal

abbrev pub invariant-loop-bits : goal.invariant-loop-bits
invariant-loop-bits g l = (l.least ≤ l.bits)
    × ((r : ℕ) → l.least ≤ r → r < l.bits → in_stride l.map l.byte r ≡ None)

abbrev pub decreases-loop-bits : goal.decreases-loop-bits
decreases-loop-bits g l = l.most + 1 - l.bits
