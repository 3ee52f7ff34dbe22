use Rattle.std.proofs.Common.{◌∙◌, ap, sym}
use Rattle.std.proofs.lemmas.List.{take-map}
use Rattle.rart_nodes.specs.walks.PathParts.{lent_segments}
use Rattle.rart_nodes.proofs.node.path_walk.path.SegmentPathPath.cut.Goals as goal

pub returns-clause-kept : goal.returns-clause-kept
returns-clause-kept g c = ap lent_segments c.truncate.ensures.items
    ∙ sym (take-map (λ p. p.now) c.args.mark c.args.self.now.segments.items)
