use Rattle.rart_script.proofs.CommandLemmas.{range-read}
use Rattle.rart_script.proofs.command.parse_range.Goals as goal

pub returns : goal.returns
returns c = range-read c.in_ok-start.ensures c.in_ok-end.ensures c.in_ok-start-2.ensures
    c.in_ok-end-2.ensures c.complete.ensures
