use Rattle.rart.proofs.tree.AdaptiveRadixTree.intersect_values_with.Goals as goal

pub intersect_values_with_counted-requires : goal.intersect_values_with_counted-requires
intersect_values_with_counted-requires g c
    = record { callable = rw (c.seen.ensures.pairs, c.seen-2.ensures.pairs) c.requires.callable }

pub returns : goal.returns
returns g c = rw (← c.seen.ensures.pairs, ← c.seen-2.ensures.pairs) c.intersect_values_with_counted.ensures.calls
