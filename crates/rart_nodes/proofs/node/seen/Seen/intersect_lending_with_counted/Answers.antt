use Rattle.std.proofs.lemmas.Result.{on_ok_weaker}
use Rattle.rart_nodes.proofs.node.seen.Seen.intersect_lending_with_counted.Goals as goal

pub returns-clause-calls : goal.returns-clause-calls
returns-clause-calls g c = on_ok_weaker c.intersect_lending_with_by_ref_counted.result
    (λ h. (c.intersect_lending_with_by_ref_counted.new.f, h)) c.intersect_lending_with_by_ref_counted.ensures.calls
