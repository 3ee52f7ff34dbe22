use Rattle.std.proofs.Common.{arith}
use Rattle.rart_lines.proofs.LineLemmas.{line_count}
use Rattle.rart_lines.proofs.lines.Lines.new.Goals as goal

pub returns-clause-fits : goal.returns-clause-fits
returns-clause-fits c = omega (arith, line_count c.args.text.now)
