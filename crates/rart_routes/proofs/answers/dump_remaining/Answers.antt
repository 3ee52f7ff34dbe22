use Rattle.std.proofs.Common.{sym, subst}
use Rattle.rart_routes.specs.Found.{found_left}
use Rattle.rart_routes.proofs.DumpLemmas.{HasDumped, dump-begin, dump-continue, dump-end}
use Rattle.rart_routes.proofs.answers.dump_remaining.Goals as goal

pub loop-net-init : goal.loop-net-init
loop-net-init g c =
    subst (λ b. HasDumped (g.W.Write.contents c.args.output.now) (g.W.Write.contents c.args.output.now)
    (found_left b.now) (found_left c.args.routes.now)) (sym c.into_iter-net-iterator.ensures.into_iter_gives)
    (dump-begin _ _)

pub loop-net-preserved : goal.loop-net-preserved
loop-net-preserved g c = dump-continue _ _ _ (c.in-Some.net, c.in-Some.target.now) _ _ _ c.in-Some.ensures.steps
    c.loop-net.invariant c.in_ok-dump_route.ensures

pub returns : goal.returns
returns g c = dump-end _ _ _ _ c.in-None.ensures.steps.0 c.loop-net.invariant
