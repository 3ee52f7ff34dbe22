use Rattle.rart.proofs.tree.AdaptiveRadixTree.for_each_range_view_bytes.Goals as goal

pub for_each_range_view_bytes_counted-requires : goal.for_each_range_view_bytes_counted-requires
for_each_range_view_bytes_counted-requires g c = record { callable = rw c.seen.ensures.pairs c.requires.callable }

pub returns-clause-calls : goal.returns-clause-calls
returns-clause-calls g c = rw (← c.seen.ensures.pairs) c.for_each_range_view_bytes_counted.ensures.calls
