use Rattle.std.proofs.lemmas.Iterator.Consumers.{YieldsList-from_first}
use Rattle.rart.proofs.script.copied_tree.Goals as goal

pub returns-clause-pairs : goal.returns-clause-pairs
returns-clause-pairs g c = c.copied_pairs.ensures.pairs _
    (YieldsList-from_first (λ p. (g.K.KeyTrait.bytes p.0, p.1.now)) (λ rest. rest) _ c.in_ok-iter.ensures.pairs).runs

pub returns-clause-memory : goal.returns-clause-memory
returns-clause-memory g c = c.copied_pairs.ensures.memory _
    (YieldsList-from_first (λ p. (g.K.KeyTrait.bytes p.0, p.1.now)) (λ rest. rest) _ c.in_ok-iter.ensures.pairs).runs
