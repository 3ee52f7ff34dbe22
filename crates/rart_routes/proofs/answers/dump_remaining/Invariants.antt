use Rattle.rart_routes.specs.Found.{found_left}
use Rattle.rart_routes.proofs.DumpLemmas.{HasDumped}
use Rattle.rart_routes.proofs.answers.dump_remaining.Given as goal

abbrev pub invariant-loop-net : goal.invariant-loop-net
invariant-loop-net g l = HasDumped (g.W.Write.contents l.fn.output) (g.W.Write.contents l.output)
    (found_left l.net-iterator) (found_left l.fn.routes)
