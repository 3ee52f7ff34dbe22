use Rattle.rart.proofs.tree.AdaptiveRadixTree.intersect_lending_with.Goals as goal

pub intersect_lending_with_counted-requires : goal.intersect_lending_with_counted-requires
intersect_lending_with_counted-requires g c
    = record { callable = rw (c.seen.ensures.pairs, c.seen-2.ensures.pairs) c.requires.callable }

pub returns-clause-calls : goal.returns-clause-calls
returns-clause-calls g c = rw (← c.seen.ensures.pairs, ← c.seen-2.ensures.pairs)
    c.intersect_lending_with_counted.ensures.calls
