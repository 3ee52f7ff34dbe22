use Rattle.std.proofs.lemmas.Result.{on_ok_weaker}
use Rattle.rart_nodes.proofs.node.seen.Seen.for_each_range_view_bytes_counted.Goals as goal

pub returns-clause-calls : goal.returns-clause-calls
returns-clause-calls g c =
    let called = c.for_each_range_view_by_ref_bytes_counted in
    on_ok_weaker called.result (λ h. (called.new.f, h)) called.ensures.calls
