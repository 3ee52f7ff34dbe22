use Rattle.rart_nodes.proofs.node.seen.Seen.prefix_values_for_each_k_counted.Goals as goal
use Rattle.std.proofs.lemmas.Result.{on_ok_weaker}

pub returns-clause-calls : goal.returns-clause-calls
returns-clause-calls g c = on_ok_weaker c.prefix_values_for_each_by_ref_k_counted.result
    (λ h. (c.prefix_values_for_each_by_ref_k_counted.new.f, h)) c.prefix_values_for_each_by_ref_k_counted.ensures.calls
