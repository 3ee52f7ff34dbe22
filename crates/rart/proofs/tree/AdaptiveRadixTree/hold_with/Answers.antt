use Rattle.std.proofs.Common.{sym, ◌∙◌}
use Rattle.rart.proofs.trees.HeldLemmas.{held-contained}
use Rattle.rart.proofs.tree.AdaptiveRadixTree.hold_with.Goals as goal

pub returns-then-contains_key_k-clause-held : goal.returns-then-contains_key_k-clause-held
returns-then-contains_key_k-clause-held g c = held-contained _ _ c.args.self.now.pairs
    (λ v. c.put_back.ensures.same_pairs _ v _ c.canonical.ensures.ascending)
    (sym c.contains_key_k.ensures ∙ c.if-contains_key_k.true)
