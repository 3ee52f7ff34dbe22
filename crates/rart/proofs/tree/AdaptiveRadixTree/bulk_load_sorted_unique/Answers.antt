use Rattle.std.proofs.lemmas.Result.{IfOk-weaker}
use Rattle.rart.proofs.bulks.BulkEndLemmas.{unique-refused}
use Rattle.rart.proofs.tree.AdaptiveRadixTree.bulk_load_sorted_unique.Goals as goal

pub returns-clause-pairs : goal.returns-clause-pairs
returns-clause-pairs g c = IfOk-weaker c.into_tree.result _ _ (λ t e. rw e c.in_ok-loader.ensures.read)
    c.into_tree.ensures.pairs

pub returns-clause-refused : goal.returns-clause-refused
returns-clause-refused g c = unique-refused g.I.IntoIterator.into_iter_gives g.I.IntoIter.Iterator.next_gives
    c.args.items g.K.KeyTrait.bytes _ _ c.into_tree.ensures.memory c.into_tree.ensures.refused
    c.in_ok-loader.ensures.read
