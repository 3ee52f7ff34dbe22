use Rattle.std.proofs.Common.{length}
use Rattle.rart.specs.UnionCalls.{CallsAtEither, CanCallAtEither}
use Rattle.rart.proofs.tree.two_trees.union.call_at_each.Given as goal

abbrev pub invariant-loop-key : goal.invariant-loop-key
invariant-loop-key g l = record {
  callable : CanCallAtEither g.F.FnMut g.K.KeyTrait.bytes l.f l.pairs;
  folds : (last : _) → CallsAtEither g.F.FnMut g.K.KeyTrait.bytes l.f l.pairs last
      → CallsAtEither g.F.FnMut g.K.KeyTrait.bytes l.fn.f l.fn.pairs last;
}

abbrev pub decreases-loop-key : goal.decreases-loop-key
decreases-loop-key g l = length l.pairs
