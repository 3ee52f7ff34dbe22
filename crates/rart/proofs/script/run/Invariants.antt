use Rattle.std.proofs.Common.{◌≤◌, length}
use Rattle.std.specs.Prelude.{vec_capacity}
use Rattle.std.specs.Vec.Iter.{into_iter_items}
use Rattle.rart.proofs.scripts.StepLemmas.{HasRun}
use Rattle.rart.proofs.script.run.Given as goal

abbrev pub invariant-loop-call : goal.invariant-loop-call
invariant-loop-call g l = record {
  run : HasRun g.V.Clone.is_infallible g.K.KeyTrait.bytes l.fn.tree.pairs l.fn.calls.items l.replies.items l.tree.pairs
      (into_iter_items l.call-iterator);
  reserved : length l.fn.calls.items ≤ vec_capacity l.replies;
}
