use Rattle.std.proofs.Common.{length}
use Rattle.rart_routes.proofs.EndLemmas.{HasRunTo}
use Rattle.rart_routes.proofs.script.run_on.Given as goal

abbrev pub invariant-loop-index : goal.invariant-loop-index
invariant-loop-index g l = HasRunTo l.mode l.has_bad l.text (length l.yielded) l.tables
    (g.W.Write.contents l.fn.output) (g.W.Write.contents l.output)
    (g.E.Write.contents l.fn.errors) (g.E.Write.contents l.errors)
