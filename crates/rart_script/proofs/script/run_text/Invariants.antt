use Rattle.std.proofs.Common.{[], length}
use Rattle.rart_lines.proofs.RunLemmas.{HasRun}
use Rattle.rart_script.specs.Script.{IsAnswered}
use Rattle.rart_script.proofs.ScriptLemmas.{AreCommands}
use Rattle.rart_script.proofs.script.run_text.Given as goal

abbrev pub invariant-loop-index : goal.invariant-loop-index
invariant-loop-index g l = record {
  commands : AreCommands l.text (length l.yielded);
  ran : HasRun IsAnswered [] l.text (length l.yielded) l.tree.pairs (g.W.Write.contents l.fn.output)
      (g.W.Write.contents l.output);
}
