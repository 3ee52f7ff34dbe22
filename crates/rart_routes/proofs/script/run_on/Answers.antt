use Rattle.std.proofs.Common.{◌≡◌, true, sym, subst}
use Rattle.std.proofs.lemmas.List.{length_push}
use Rattle.std.proofs.lemmas.Iterator.Consumers.{YieldsList-from_first, YieldsList-from_enumerate, YieldsList-turn}
use Rattle.std.proofs.lemmas.Iterator.Consumers.{YieldsList-end}
use Rattle.std.specs.Prelude.{Err, Ok}
use Rattle.rart_lines.specs.Lines.{lines_of, lines_left}
use Rattle.rart_lines.specs.Words.{words_of}
use Rattle.rart_routes.specs.Command.{IsCommand}
use Rattle.rart_routes.proofs.EndLemmas.{HasRunTo, ends-at_bad, ends-well, goes_on, run-answers, run-reports}
use Rattle.rart_routes.proofs.script.run_on.Goals as goal

pub returns-in-EndAtBad-clause-answers : goal.returns-in-EndAtBad-clause-answers
returns-in-EndAtBad-clause-answers g c =
    let source : lines_left c.into_iter-index-iterator.result.iter ≡ lines_of c.args.text.now = cc in
    let all = YieldsList-from_enumerate (YieldsList-from_first (λ x. x.now) lines_left (lines_of c.args.text.now)
    source) (cc) in
    let turn = YieldsList-turn all c.loop-index.yielded _ c.loop-index.yielded_by _ c.next.new.self
    (c.in-Some.index, c.in-Some.line) c.in-Some.is c.next.ensures.steps in
    let is : IsCommand (words_of c.in-Some.line.now) (Err c.in-Err.error) = c.in-Err.ensures in
    ends-at_bad c.args.mode c.loop-index.has_bad c.args.text.now turn is c.in-EndAtBad.is
    c.loop-index.invariant

pub loop-index-preserved-in-Err : goal.loop-index-preserved-in-Err
loop-index-preserved-in-Err g c =
    let source : lines_left c.into_iter-index-iterator.result.iter ≡ lines_of c.args.text.now = cc in
    let all = YieldsList-from_enumerate (YieldsList-from_first (λ x. x.now) lines_left (lines_of c.args.text.now)
    source) (cc) in
    let turn = YieldsList-turn all c.loop-index.yielded _ c.loop-index.yielded_by _ c.next.new.self
    (c.in-Some.index, c.in-Some.line) c.in-Some.is c.next.ensures.steps in
    let is : IsCommand (words_of c.in-Some.line.now) (Err c.in-Err.error) = c.in-Err.ensures in
    let goes = goes_on c.args.mode c.in_default.not-EndAtBad in
    subst (λ n. HasRunTo c.args.mode true c.args.text.now n c.loop-index.tables
    (g.W.Write.contents c.args.output.now) (g.W.Write.contents c.report.new.output)
    (g.E.Write.contents c.args.errors.now) (g.E.Write.contents c.report.new.errors))
    (sym (length_push c.loop-index.yielded _))
    (run-reports c.args.mode c.loop-index.has_bad c.args.text.now _ turn is goes
    c.in-Ok-report.ensures.answers c.in-Ok-report.ensures.said c.loop-index.invariant)

pub loop-index-preserved : goal.loop-index-preserved
loop-index-preserved g c =
    let source : lines_left c.into_iter-index-iterator.result.iter ≡ lines_of c.args.text.now = cc in
    let all = YieldsList-from_enumerate (YieldsList-from_first (λ x. x.now) lines_left (lines_of c.args.text.now)
    source) (cc) in
    let turn = YieldsList-turn all c.loop-index.yielded _ c.loop-index.yielded_by _ c.next.new.self
    (c.in-Some.index, c.in-Some.line) c.in-Some.is c.next.ensures.steps in
    let is : IsCommand (words_of c.in-Some.line.now) (Ok c.in-Ok.command) = c.in-Ok.ensures in
    subst (λ n. HasRunTo c.args.mode c.loop-index.has_bad c.args.text.now n c.execute.new.tables
    (g.W.Write.contents c.args.output.now) (g.W.Write.contents c.execute.new.output)
    (g.E.Write.contents c.args.errors.now) (g.E.Write.contents c.loop-index.errors))
    (sym (length_push c.loop-index.yielded _))
    (run-answers c.args.mode c.loop-index.has_bad c.args.text.now _ _ _ _ _ _ c.in-Ok-execute.ensures.0 _ _ _ _ _
    turn is c.in-Ok-execute.ensures.1 c.in-Ok-execute.ensures.2 c.loop-index.invariant)

pub returns-clause-answers : goal.returns-clause-answers
returns-clause-answers g c =
    let source : lines_left c.into_iter-index-iterator.result.iter ≡ lines_of c.args.text.now = cc in
    let all = YieldsList-from_enumerate (YieldsList-from_first (λ x. x.now) lines_left (lines_of c.args.text.now)
    source) (cc) in
    let last = YieldsList-end all c.loop-index.yielded _ c.loop-index.yielded_by _ c.next.new.self c.in-None.is
    c.next.ensures.steps in
    ends-well c.args.mode c.loop-index.has_bad c.args.text.now _ _ _ _ _ _ last.1 c.loop-index.invariant
