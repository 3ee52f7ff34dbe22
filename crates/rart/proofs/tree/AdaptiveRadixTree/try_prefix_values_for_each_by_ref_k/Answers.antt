use Rattle.rart.proofs.tree.AdaptiveRadixTree.try_prefix_values_for_each_by_ref_k.Goals as goal

pub try_prefix_values_for_each_by_ref_k_counted-requires : goal.try_prefix_values_for_each_by_ref_k_counted-requires
try_prefix_values_for_each_by_ref_k_counted-requires g c = record {
  callable = rw c.seen.ensures.pairs c.requires.callable;
}

pub returns-clause-calls : goal.returns-clause-calls
returns-clause-calls g c = rw (← c.seen.ensures.pairs) c.try_prefix_values_for_each_by_ref_k_counted.ensures.calls
