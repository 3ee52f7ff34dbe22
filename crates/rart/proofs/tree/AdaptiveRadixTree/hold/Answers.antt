use Rattle.rart.proofs.trees.HeldLemmas.{held-stored}
use Rattle.rart.proofs.tree.AdaptiveRadixTree.hold.Goals as goal

pub returns-in-Err-Stored-clause-held : goal.returns-in-Err-Stored-clause-held
returns-in-Err-Stored-clause-held g c =
    let refused = rw c.in-Err-Stored.field-0-is at c.in-Err-Stored.ensures.inserts_new in
    held-stored _ _ c.args.self.now.pairs c.insert_new_k.new.self.pairs
    (λ v. c.put_back.ensures.same_pairs _ v _ c.canonical.ensures.ascending) refused.0.1 refused.1
