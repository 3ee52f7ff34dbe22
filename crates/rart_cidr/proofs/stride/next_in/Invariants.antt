use Rattle.std.proofs.Common.{◌≤◌, ◌-◌, [], ◌∷◌}
use Rattle.rart_cidr.specs.Routes.{IsCode}
use Rattle.rart_cidr.specs.Codes.{code_place}
use Rattle.rart_cidr.proofs.networks.CodeLemmas.{HasNoneUpTo}
use Rattle.rart_cidr.proofs.stride.next_in.Given as goal

abbrev pub invariant-loop-at : goal.invariant-loop-at
invariant-loop-at g l = IsCode (l.at ∷ []) × (code_place l.code ≤ code_place l.at)
    × (code_place l.at ≤ code_place l.last) × HasNoneUpTo l.map l.code l.at

abbrev pub decreases-loop-at : goal.decreases-loop-at
decreases-loop-at g l = code_place l.last - code_place l.at
