use Rattle.rart_trie.specs.stats.Stats.{stats_in}
use Rattle.rart_script.specs.Stats.{stats_line}
use Rattle.rart_lines.proofs.PrintLemmas.{HasPrinted}
use Rattle.rart_script.proofs.PrintLemmas.{further_widths}
use Rattle.rart_script.proofs.stats.write_stats.Given as goal

abbrev pub invariant-loop-width : goal.invariant-loop-width
invariant-loop-width g l = HasPrinted (g.W.Write.contents l.fn.output) (g.W.Write.contents l.output)
    (further_widths l.width-iterator) (stats_line (stats_in l.stats))
