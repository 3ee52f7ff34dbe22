use Rattle.rart.proofs.ends.BothEndLemmas.{all-items, items-left}
use Rattle.rart.proofs.tree.AdaptiveRadixTree.iter_both_ends.Goals as goal

pub invariant_of-result : goal.invariant_of-result
invariant_of-result g c = items-left c.len.result c.in_ok-front.front c.args.self.now.pairs c.in_ok-back.back
    c.len.ensures.value c.in_ok-front.ensures.pairs c.in_ok-back.ensures.pairs

pub returns-clause-pairs : goal.returns-clause-pairs
returns-clause-pairs g c = all-items c.len.result c.in_ok-front.front c.args.self.now.pairs c.len.ensures.value
    c.in_ok-front.ensures.pairs
