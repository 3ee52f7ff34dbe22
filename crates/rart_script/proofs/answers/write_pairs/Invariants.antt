use Rattle.std.specs.Vec.Iter.{into_iter_items}
use Rattle.rart.specs.Steps.{pairs_in}
use Rattle.rart_keys.specs.ArrayKeyBytes.{array_key_bytes}
use Rattle.rart_script.specs.Answers.{pairs_line}
use Rattle.rart_lines.proofs.PrintLemmas.{HasPrinted}
use Rattle.rart_script.proofs.PrintLemmas.{further_pairs}
use Rattle.rart_script.proofs.answers.write_pairs.Given as goal

abbrev pub invariant-loop-key : goal.invariant-loop-key
invariant-loop-key g l = HasPrinted (g.W.Write.contents l.fn.output) (g.W.Write.contents l.output)
    (further_pairs (pairs_in array_key_bytes (into_iter_items l.key-iterator)))
    (pairs_line (pairs_in array_key_bytes l.fn.pairs.items))
