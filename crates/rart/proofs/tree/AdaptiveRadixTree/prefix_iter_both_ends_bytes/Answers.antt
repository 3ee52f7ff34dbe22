use Rattle.std.proofs.Common.{◌∙◌, ap, reverse, subst, sym}
use Rattle.rart_keys.specs.SortedMap.{IsAscending}
use Rattle.rart.proofs.ends.PartEndLemmas.{ascending-below, without-end}
use Rattle.rart.proofs.tree.AdaptiveRadixTree.prefix_iter_both_ends_bytes.Goals as goal

pub of-requires-clause-ascending : goal.of-requires-clause-ascending
of-requires-clause-ascending g c = subst IsAscending (sym (without-end _ _ _ c.for_iter.ensures.end
    (c.for_iter.ensures.pairs ∙ c.in_ok-front.ensures.pairs)))
    (ascending-below c.args.prefix.now c.args.self.now.pairs c.canonical.ensures.ascending)

pub of-requires-clause-reversed : goal.of-requires-clause-reversed
of-requires-clause-reversed g c = c.in_ok-back.ensures.pairs ∙ ap reverse (sym (without-end _ _ _ c.for_iter.ensures.end
    (c.for_iter.ensures.pairs ∙ c.in_ok-front.ensures.pairs)))

pub returns-clause-pairs : goal.returns-clause-pairs
returns-clause-pairs g c = c.of.ensures ∙ without-end _ _ _ c.for_iter.ensures.end
    (c.for_iter.ensures.pairs ∙ c.in_ok-front.ensures.pairs)
