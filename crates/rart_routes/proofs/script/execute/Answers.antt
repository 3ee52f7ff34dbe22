use Rattle.std.proofs.Common.{◌≡◌, [], refl, sym, subst}
use Rattle.std.specs.Prelude.{Ok}
use Rattle.rart_routes.specs.Answers.{PrintsAnswer}
use Rattle.rart_routes.specs.declared.command.Command.TheVariants as command
use Rattle.rart_routes.proofs.EndLemmas.{Appends-kept, Keeps-same}
use Rattle.rart_routes.proofs.script.execute.Goals as goal

pub returns-in-Ok : goal.returns-in-Ok
returns-in-Ok g c =
    let is : c.args.command ≡ command.Load c.in-Load.net c.in-Load.target = c.in-Load.is in
    let step : PrintsAnswer (command.Load c.in-Load.net c.in-Load.target) c.args.tables.now []
    c.insert-in-Load.new.self = (Ok c.in-Ok.field-0, c.in-Ok.ensures, refl) in
    let output = g.W.Write.contents c.args.output.now in (
      [],
      subst (λ k. PrintsAnswer k c.args.tables.now [] c.insert-in-Load.new.self) (sym is) step,
      Appends-kept output output (Keeps-same output),
    )
