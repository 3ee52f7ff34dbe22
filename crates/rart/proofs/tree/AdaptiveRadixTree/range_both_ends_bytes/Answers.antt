use Rattle.std.proofs.Common.{◌∙◌, ap, reverse, subst, sym}
use Rattle.rart_keys.specs.SortedMap.{IsAscending}
use Rattle.rart.proofs.ends.PartEndLemmas.{ascending-between}
use Rattle.rart.proofs.tree.AdaptiveRadixTree.range_both_ends_bytes.Goals as goal

pub of-requires-clause-ascending : goal.of-requires-clause-ascending
of-requires-clause-ascending g c = subst IsAscending (sym c.in_ok-front.ensures.pairs)
    (ascending-between _ _ c.args.self.now.pairs c.canonical.ensures.ascending)

pub of-requires-clause-reversed : goal.of-requires-clause-reversed
of-requires-clause-reversed g c = c.in_ok-back.ensures.pairs ∙ ap reverse (sym c.in_ok-front.ensures.pairs)
