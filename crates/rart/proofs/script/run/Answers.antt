use Rattle.std.proofs.Common.{◌≢◌, [], ap, arith, length}
use Rattle.std.proofs.lemmas.Bool.{false≢true}
use Rattle.rart_parts.specs.declared.error.TreeError.TheVariants.{Memory}
use Rattle.rart.proofs.scripts.StepLemmas.{refused-some, run-begins, run-continues, run-ends}
use Rattle.rart.proofs.script.run.Goals as goal

pub loop-call-init : goal.loop-call-init
loop-call-init g c = record {
  run = run-begins _ _ _ _ _ _ c.in_ok-replies.ensures.items c.into_iter-call-iterator.ensures.into_iter_gives.0;
  reserved = omega (arith, c.in_ok-replies.ensures.capacity, c.len.ensures, c.args.calls.ok);
}

pub loop-call-preserved : goal.loop-call-preserved
loop-call-preserved g c = record {
  run = run-continues _ c.in-Some.ensures.steps.0 c.push_reserved.ensures.items c.loop-call.invariant.run
      c.step.ensures;
  reserved = omega (arith, c.loop-call.invariant.reserved, c.push_reserved.ensures.capacity);
}

pub returns-clause-run : goal.returns-clause-run
returns-clause-run g c = run-ends _ _ _ _ _ _ _
    (omega (arith, c.in-None.ensures.steps.0, c.loop-call.call-iterator.rest.ok.0)) c.loop-call.invariant.run

pub returns-in_err-replies-clause-memory : goal.returns-in_err-replies-clause-memory
returns-in_err-replies-clause-memory g c =
    let some : c.args.calls.items ≢ [] = λ e. false≢true
    (c.in_err-replies.ensures.succeeds (omega (arith, ap length e, c.len.ensures, c.args.calls.ok.0))) in
    refused-some c.from_residual.result Memory c.from_residual.ensures.1 some
