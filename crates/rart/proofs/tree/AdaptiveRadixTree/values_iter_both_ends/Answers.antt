use Rattle.rart.proofs.ends.BothEndLemmas.{all-values, values-left}
use Rattle.rart.proofs.tree.AdaptiveRadixTree.values_iter_both_ends.Goals as goal

pub invariant_of-result : goal.invariant_of-result
invariant_of-result g c = values-left c.len.result c.in_ok-front.front c.args.self.now.pairs c.in_ok-back.back
    c.len.ensures.value c.in_ok-front.ensures.values c.in_ok-back.ensures.pairs

pub returns-clause-values : goal.returns-clause-values
returns-clause-values g c = all-values c.len.result c.in_ok-front.front c.args.self.now.pairs c.len.ensures.value
    c.in_ok-front.ensures.values
