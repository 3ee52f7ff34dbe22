use Rattle.rart.proofs.tree.AdaptiveRadixTree.with_longest_prefix_match_view_bytes.Goals as goal

pub with_longest_prefix_match_view_bytes_counted-requires : goal.with_longest_prefix_match_view_bytes_counted-requires
with_longest_prefix_match_view_bytes_counted-requires g c = record {
  callable = rw c.seen.ensures.pairs c.requires.callable;
}

pub returns-clause-calls : goal.returns-clause-calls
returns-clause-calls g c = rw (← c.seen.ensures.pairs) c.with_longest_prefix_match_view_bytes_counted.ensures.calls
