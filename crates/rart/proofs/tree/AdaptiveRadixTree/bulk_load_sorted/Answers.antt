use Rattle.std.proofs.lemmas.Result.{IfOk-weaker}
use Rattle.rart.proofs.bulks.BulkEndLemmas.{sorted-refused}
use Rattle.rart.proofs.tree.AdaptiveRadixTree.bulk_load_sorted.Goals as goal

pub returns-clause-faultless : goal.returns-clause-faultless
returns-clause-faultless g c = IfOk-weaker c.into_tree.result _ _ (λ t e. rw e c.in_ok-loader.ensures.read)
    c.into_tree.ensures.pairs

pub returns-clause-refused : goal.returns-clause-refused
returns-clause-refused g c = sorted-refused g.I.IntoIterator.into_iter_gives g.I.IntoIter.Iterator.next_gives
    c.args.items g.K.KeyTrait.bytes _ _ c.into_tree.ensures.memory c.into_tree.ensures.refused
    c.in_ok-loader.ensures.read
