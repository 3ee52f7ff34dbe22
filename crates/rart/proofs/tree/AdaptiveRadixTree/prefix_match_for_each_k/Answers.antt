use Rattle.rart.proofs.tree.AdaptiveRadixTree.prefix_match_for_each_k.Goals as goal

pub prefix_match_for_each_k_counted-requires : goal.prefix_match_for_each_k_counted-requires
prefix_match_for_each_k_counted-requires g c = record { callable = rw c.seen.ensures.pairs c.requires.callable }

pub returns : goal.returns
returns g c = rw (← c.seen.ensures.pairs) c.prefix_match_for_each_k_counted.ensures.calls
