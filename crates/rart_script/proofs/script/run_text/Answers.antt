use Rattle.std.proofs.Common.{◌≡◌, [], ap, sym, ◌∙◌, subst}
use Rattle.std.specs.Option.{option_map}
use Rattle.std.proofs.lemmas.List.{length_push}
use Rattle.std.proofs.lemmas.Iterator.Consumers.{YieldsList-from_first, YieldsList-from_enumerate, YieldsList-turn}
use Rattle.std.proofs.lemmas.Iterator.Consumers.{YieldsList-end}
use Rattle.rart_script.specs.Command.{requested_call}
use Rattle.rart_lines.specs.Lines.{lines_of, lines_left}
use Rattle.rart_lines.proofs.RunLemmas.{HasRun, lines-next}
use Rattle.rart_script.specs.Script.{IsAnswered}
use Rattle.rart_script.proofs.ScriptLemmas.{AreCommands, bad_line-at_next, AreCommands-next, bad_line-at_end}
use Rattle.rart_script.proofs.script.run_text.Goals as goal

pub returns-in_default-clause-lines : goal.returns-in_default-clause-lines
returns-in_default-clause-lines g c =
    let source : lines_left c.into_iter-index-iterator.result.iter ≡ lines_of c.args.text.now = cc in
    let all = YieldsList-from_enumerate (YieldsList-from_first (λ x. x.now) lines_left (lines_of c.args.text.now)
    source) (cc) in
    let turn = YieldsList-turn all c.loop-index.yielded _ c.loop-index.yielded_by _ c.next.new.self
    (c.in-Some.index, c.in-Some.line) c.in-Some.is c.next.ensures.steps in
    bad_line-at_next c.args.text.now _ _ _ turn c.loop-index.invariant.commands (sym c.parse_command.ensures
    ∙ ap (option_map requested_call) c.in_default.is)

pub loop-index-preserved : goal.loop-index-preserved
loop-index-preserved g c =
    let source : lines_left c.into_iter-index-iterator.result.iter ≡ lines_of c.args.text.now = cc in
    let all = YieldsList-from_enumerate (YieldsList-from_first (λ x. x.now) lines_left (lines_of c.args.text.now)
    source) (cc) in
    let turn = YieldsList-turn all c.loop-index.yielded _ c.loop-index.yielded_by _ c.next.new.self
    (c.in-Some.index, c.in-Some.line) c.in-Some.is c.next.ensures.steps in
    let is = sym c.parse_command.ensures ∙ ap (option_map requested_call) c.in-Some-parse_command.is in
    record {
      commands = subst (AreCommands c.args.text.now) (sym (length_push c.loop-index.yielded _))
          (AreCommands-next c.args.text.now _ _ _ _ turn c.loop-index.invariant.commands is);
      ran = subst (λ n. HasRun IsAnswered [] c.args.text.now n c.execute.new.tree.pairs
          (g.W.Write.contents c.args.output.now) (g.W.Write.contents c.execute.new.output))
          (sym (length_push c.loop-index.yielded _))
          (lines-next IsAnswered [] c.args.text.now _ _ _ _ _ c.in-Ok.ensures.0 _ _ _ turn c.loop-index.invariant.ran
          (record { command = c.in-Some-parse_command.command; is_command = is; step = c.in-Ok.ensures.1 })
          c.in-Ok.ensures.2);
    }

pub returns-clause-lines : goal.returns-clause-lines
returns-clause-lines g c =
    let source : lines_left c.into_iter-index-iterator.result.iter ≡ lines_of c.args.text.now = cc in
    let all = YieldsList-from_enumerate (YieldsList-from_first (λ x. x.now) lines_left (lines_of c.args.text.now)
    source) (cc) in
    let last = YieldsList-end all c.loop-index.yielded _ c.loop-index.yielded_by _ c.next.new.self c.in-None.is
    c.next.ensures.steps in
    bad_line-at_end c.args.text.now _ last.1 c.loop-index.invariant.commands
