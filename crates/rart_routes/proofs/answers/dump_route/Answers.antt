use Rattle.std.proofs.Common.{◌++◌, subst}
use Rattle.std.specs.Prelude.{codes}
use Rattle.std.specs.Io.KnownBytes.{Appends}
use Rattle.std.proofs.lemmas.Result.{on_ok_weaker}
use Rattle.rart_lines.proofs.RunLemmas.{Appends-both}
use Rattle.rart_routes.specs.Net.{net_text}
use Rattle.rart_routes.proofs.answers.dump_route.Goals as goal

pub returns : goal.returns
returns g c =
    let route = subst (λ k. Appends (g.W.Write.contents c.args.output.now) (g.W.Write.contents c.write_all.new.self)
    (net_text c.args.net.now ++ codes " " ++ k)) c.as_slice.ensures.value
    (Appends-both _ _ _ _ _ c.in_ok-write.ensures.bytes c.in_ok-write_all.ensures.bytes) in
    on_ok_weaker c.writeln.result (λ h. Appends-both _ _ _ _ _ route h) c.writeln.ensures.bytes
