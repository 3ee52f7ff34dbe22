use Rattle.rart.proofs.tree.AdaptiveRadixTree.try_intersect_with_by_ref.Goals as goal

pub try_intersect_with_by_ref_counted-requires : goal.try_intersect_with_by_ref_counted-requires
try_intersect_with_by_ref_counted-requires g c = record {
  callable
      = rw (c.seen.ensures.pairs, c.seen-2.ensures.pairs) c.requires.callable;
}

pub returns-clause-calls : goal.returns-clause-calls
returns-clause-calls g c = rw (← c.seen.ensures.pairs, ← c.seen-2.ensures.pairs)
    c.try_intersect_with_by_ref_counted.ensures.calls
