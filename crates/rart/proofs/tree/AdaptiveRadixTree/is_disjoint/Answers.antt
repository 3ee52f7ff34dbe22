use Rattle.rart.proofs.tree.AdaptiveRadixTree.is_disjoint.Goals as goal

pub returns : goal.returns
returns g c = rw (← c.seen.ensures.pairs, ← c.seen-2.ensures.pairs) c.is_disjoint_counted.ensures.value
