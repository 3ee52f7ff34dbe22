use Rattle.std.proofs.Common.{◌∙◌}
use Rattle.rart_trie.proofs.ranges.PartLemmas.{begins-empty}
use Rattle.rart_trie.proofs.node.part.Part.holds_empty.Goals as goal

pub returns-in-Below : goal.returns-in-Below
returns-in-Below c = rw c.in-Below.is (c.is_empty.ensures ∙ begins-empty c.in-Below.bytes.now)
