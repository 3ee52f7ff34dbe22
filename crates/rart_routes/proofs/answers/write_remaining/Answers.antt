use Rattle.std.proofs.Common.{◌≡◌, ◌∷◌, subst, sym}
use Rattle.std.proofs.lemmas.Result.{on_ok_weaker}
use Rattle.rart_routes.specs.Found.{found_left}
use Rattle.rart_routes.proofs.PrintLemmas.{HasPrintedRoutes, in_bits, routes-begin, routes-continue, routes-end}
use Rattle.rart_routes.proofs.answers.write_remaining.Goals as goal

pub loop-net-init : goal.loop-net-init
loop-net-init g c =
    let whole : found_left c.args.routes.now
    ≡ in_bits (c.in-Some.net, c.in-Some.target.now) ∷ found_left c.next.new.self = c.in-Some.ensures.steps in
    subst (λ b. HasPrintedRoutes (g.W.Write.contents c.args.output.now) (g.W.Write.contents c.write_route.new.output)
    (found_left b.now) (found_left c.args.routes.now)) (sym c.into_iter-net-iterator.ensures.into_iter_gives)
    (routes-begin _ _ (c.in-Some.net, c.in-Some.target.now) _ _ whole c.in_ok-write_route.ensures)

pub loop-net-preserved : goal.loop-net-preserved
loop-net-preserved g c = routes-continue _ _ _ _ (c.in-Some-2.net, c.in-Some-2.target.now) _ _ _
    c.in-Some-2.ensures.steps c.loop-net.invariant c.in_ok-write.ensures.bytes c.in_ok-write_route-2.ensures

pub returns : goal.returns
returns g c = on_ok_weaker c.writeln-2.result (routes-end _ _ _ _ _ c.in-None.ensures.steps.0 c.loop-net.invariant)
    c.writeln-2.ensures.bytes
