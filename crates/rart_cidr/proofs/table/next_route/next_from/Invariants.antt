use Rattle.std.proofs.Common.{◌≡◌, false, length}
use Rattle.rart_keys.specs.Ranges.{pairs_from}
use Rattle.rart_cidr.specs.Fields.{IsAtNetwork}
use Rattle.rart_cidr.specs.Routes.{routes_of}
use Rattle.rart_cidr.specs.Walks.{net_at}
use Rattle.rart_cidr.proofs.table.next_route.next_from.Given as goal

abbrev pub invariant-loop-at : goal.invariant-loop-at
invariant-loop-at g l = IsAtNetwork g.K.KeyTrait.bytes l.strides.pairs (g.K.KeyTrait.bytes l.key) l.code l.ahead
    × (pairs_from false (net_at (g.K.KeyTrait.bytes l.key) l.code) (routes_of l.strides.pairs)
    ≡ pairs_from false (net_at (g.K.KeyTrait.bytes l.fn.key) l.fn.code) (routes_of l.strides.pairs))

abbrev pub decreases-loop-at : goal.decreases-loop-at
decreases-loop-at g l = length (pairs_from false (g.K.KeyTrait.bytes l.key) l.strides.pairs)
