use Rattle.std.proofs.Common.{◌≡◌, length}
use Rattle.rart.specs.Unions.{pairs_from_key}
use Rattle.rart.proofs.tree.two_trees.ahead.Ahead.skip_to.Given as goal

abbrev pub invariant-below : goal.invariant-below
invariant-below g l =
    pairs_from_key (g.K.KeyTrait.bytes l.key) l.self ≡ pairs_from_key (g.K.KeyTrait.bytes l.key) l.fn.self

abbrev pub decreases-below : goal.decreases-below
decreases-below g l = length l.self
