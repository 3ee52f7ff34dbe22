use Rattle.rart.proofs.tree.AdaptiveRadixTree.with_longest_prefix_match_view_k.Goals as goal

pub with_longest_prefix_match_view_k_counted-requires : goal.with_longest_prefix_match_view_k_counted-requires
with_longest_prefix_match_view_k_counted-requires g c = record {
  callable = rw c.seen.ensures.pairs c.requires.callable;
}

pub returns-clause-calls : goal.returns-clause-calls
returns-clause-calls g c = rw (← c.seen.ensures.pairs) c.with_longest_prefix_match_view_k_counted.ensures.calls
