use Rattle.rart_trie.proofs.node.DefaultNode.pop_end.Goals as goal

pub returns-in-Err-clause-allocates : goal.returns-in-Err-clause-allocates
returns-in-Err-clause-allocates g c = rw c.in-Some.is c.in-Err.ensures.allocates
