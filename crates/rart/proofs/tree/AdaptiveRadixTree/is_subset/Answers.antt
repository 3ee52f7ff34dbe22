use Rattle.std.proofs.Common.{ap, length, ◌∙◌, sym}
use Rattle.rart.proofs.tree.AdaptiveRadixTree.is_subset.Goals as goal

pub is_subset_counted-requires : goal.is_subset_counted-requires
is_subset_counted-requires g c = record {
  len = c.len.ensures.value ∙ ap length (sym c.seen.ensures.pairs);
  other_len = c.len-2.ensures.value ∙ ap length (sym c.seen-2.ensures.pairs);
}

pub returns : goal.returns
returns g c = rw (← c.seen.ensures.pairs, ← c.seen-2.ensures.pairs) c.is_subset_counted.ensures.value
