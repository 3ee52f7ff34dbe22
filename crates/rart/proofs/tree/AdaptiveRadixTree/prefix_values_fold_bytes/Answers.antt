use Rattle.std.proofs.lemmas.Result.{IfOk-weaker}
use Rattle.rart.proofs.tree.AdaptiveRadixTree.prefix_values_fold_bytes.Goals as goal

pub returns-clause-calls : goal.returns-clause-calls
returns-clause-calls g c = IfOk-weaker c.prefix_values_fold_by_ref_bytes.result _ _ (λ state h.
    (c.prefix_values_fold_by_ref_bytes.new.f, h)) c.prefix_values_fold_by_ref_bytes.ensures.calls
