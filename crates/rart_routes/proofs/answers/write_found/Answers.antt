use Rattle.std.proofs.Common.{rules, ◌≡◌, Some}
use Rattle.std.proofs.lemmas.Result.{on_ok_weaker}
use Rattle.rart_lines.proofs.RunLemmas.{Appends-both}
use Rattle.rart_routes.proofs.answers.write_found.Goals as goal

pub returns : goal.returns
returns g c =
    let found : c.args.found ≡ Some (c.in-Some.net, c.in-Some.target) = search rules in
    on_ok_weaker c.writeln-2.result (λ h. rw found (Appends-both _ _ _ _ _ (Appends-both _ _ _ _ _
    c.in_ok-write.ensures.bytes c.in_ok-write_route.ensures) h)) c.writeln-2.ensures.bytes
