use Rattle.std.proofs.Common.{arith, sym, ◌∙◌}
use Rattle.rart_nodes.proofs.joins.JoinPathLemmas.{segments-one}
use Rattle.rart_nodes.proofs.node.intersect.join_path.JoinPath.grow.Goals as goal

pub returns-then-not-is_empty : goal.returns-then-not-is_empty
returns-then-not-is_empty c = rw c.in-Segments.is
    (segments-one c.in-Segments.segments c.push_reserved.new.self c.args.segment c.push_reserved.ensures.items
    (omega (arith, c.push_reserved.ensures.capacity)) (sym c.if-not-is_empty.true ∙ c.is_empty.ensures))
