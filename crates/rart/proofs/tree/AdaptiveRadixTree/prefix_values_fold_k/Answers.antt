use Rattle.rart.proofs.tree.AdaptiveRadixTree.prefix_values_fold_k.Goals as goal

pub prefix_values_fold_k_counted-requires : goal.prefix_values_fold_k_counted-requires
prefix_values_fold_k_counted-requires g c = record { callable = rw c.seen.ensures.pairs c.requires.callable }

pub returns-clause-calls : goal.returns-clause-calls
returns-clause-calls g c = rw (← c.seen.ensures.pairs) c.prefix_values_fold_k_counted.ensures.calls
