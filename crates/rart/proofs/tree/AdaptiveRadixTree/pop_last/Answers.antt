use Rattle.rart.proofs.trees.EditLemmas.{may-refuse}
use Rattle.rart.proofs.tree.AdaptiveRadixTree.pop_last.Goals as goal

pub returns-in-Err-clause-memory : goal.returns-in-Err-clause-memory
returns-in-Err-clause-memory g c = rw (← c.self.view_is)
    (may-refuse _ _ c.in-Err.error c.in-Err.ensures.memory c.in-Err.ensures.allocates)
