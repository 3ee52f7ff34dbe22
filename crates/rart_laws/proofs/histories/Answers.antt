use Rattle.std.proofs.Common.{None}
use Rattle.rart_trie.proofs.edits.EditRunLemmas.{run-pairs_of, run-shape}
use Rattle.rart_laws.proofs.histories.Goals as goal

pub returns : goal.returns
returns g c = record { pairs = λ es. run-pairs_of es None tt; shape = run-shape }
