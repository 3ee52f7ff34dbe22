use Rattle.std.proofs.lemmas.Result.{on_ok_weaker}
use Rattle.rart.proofs.tree.AdaptiveRadixTree.prefix_values_for_each_bytes.Goals as goal

pub returns-clause-calls : goal.returns-clause-calls
returns-clause-calls g c = on_ok_weaker c.prefix_values_for_each_by_ref_bytes.result (λ h.
    (c.prefix_values_for_each_by_ref_bytes.new.f, h)) c.prefix_values_for_each_by_ref_bytes.ensures.calls
