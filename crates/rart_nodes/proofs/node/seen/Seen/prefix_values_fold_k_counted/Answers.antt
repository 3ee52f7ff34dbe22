use Rattle.std.proofs.lemmas.Result.{IfOk-weaker}
use Rattle.rart_nodes.proofs.node.seen.Seen.prefix_values_fold_k_counted.Goals as goal

pub returns-clause-calls : goal.returns-clause-calls
returns-clause-calls g c = IfOk-weaker c.prefix_values_fold_by_ref_k_counted.result _ _
    (λ state h. (c.prefix_values_fold_by_ref_k_counted.new.f, h)) c.prefix_values_fold_by_ref_k_counted.ensures.calls
