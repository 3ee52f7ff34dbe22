use Rattle.std.proofs.Common.{◌≤◌, ◌+◌, length, [], ◌∷◌}
use Rattle.std.specs.Prelude.{option_map}
use Rattle.rart_cidr.specs.Routes.{coded_network}
use Rattle.rart_cidr.specs.Walks.{HasNoneDownTo}
use Rattle.rart_cidr.proofs.table.next.next_before.Given as goal

abbrev pub invariant-loop-found : goal.invariant-loop-found
invariant-loop-found g l = (l.at ≤ length l.octets)
    × HasNoneDownTo l.strides.pairs l.octets (coded_network l.octets (l.code ∷ []))
    (option_map g.K.KeyTrait.bytes l.ahead) (l.at + 1)

abbrev pub decreases-loop-found : goal.decreases-loop-found
decreases-loop-found g l = l.at
