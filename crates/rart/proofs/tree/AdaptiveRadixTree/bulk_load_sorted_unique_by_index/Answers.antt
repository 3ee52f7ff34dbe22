use Rattle.std.proofs.lemmas.Result.{IfOk-weaker}
use Rattle.rart.proofs.tree.AdaptiveRadixTree.bulk_load_sorted_unique_by_index.Goals as goal

pub returns-clause-values : goal.returns-clause-values
returns-clause-values g c = IfOk-weaker c.bulk_load_sorted_unique_by_index_by_ref.result _ _ (λ t h. (_, h))
    c.bulk_load_sorted_unique_by_index_by_ref.ensures.values
