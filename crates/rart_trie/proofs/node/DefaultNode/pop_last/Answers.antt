use Rattle.rart_trie.specs.declared.node.ends.End.TheVariants.{Last}
use Rattle.rart_trie.proofs.edits.Outcomes.{if_ok_weaker}
use Rattle.rart_trie.proofs.removals.PopLemmas.{pops-count, pops-longest, pops-on}
use Rattle.rart_trie.proofs.node.DefaultNode.pop_last.Goals as goal

pub returns-clause-count : goal.returns-clause-count
returns-clause-count g c = if_ok_weaker c.pop_end.result
    (λ o h. pops-count Last (λ p. (g.P.Partial.bytes p.0, p.1)) o _ _ h) c.pop_end.ensures.pairs

pub returns-clause-longest_key : goal.returns-clause-longest_key
returns-clause-longest_key g c = pops-on c.pop_end.result (λ o h. pops-longest Last _ _ _ h) c.pop_end.ensures.pairs
