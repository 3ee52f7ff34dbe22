use Rattle.std.proofs.Common.{◌≡◌, ◌-◌, ◌^◌, length, min}
use Rattle.rart.specs.BulkLoads.{LoadsSorted}
use Rattle.rart.specs.Steps.{pairs_in}
use Rattle.rart.proofs.tree.bulk.read.read_sorted.Given as goal

abbrev pub invariant-loop-key : goal.invariant-loop-key
invariant-loop-key g l = record {
  can : (goal.iterator-loop-key g).can_next l.key-iterator;
  finite : (goal.iterator-loop-key g).is_finite l.key-iterator;
  at_is : l.at ≡ min (length l.yielded) (2 ^ 64 - 1);
  read : LoadsSorted (pairs_in g.K.KeyTrait.bytes l.yielded) l.loader;
}
