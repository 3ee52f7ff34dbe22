use Rattle.std.proofs.Common.{◌++◌, take}
use Rattle.rart_nodes.proofs.ranges.NearestPlaces.{nearer-place}
use Rattle.rart_nodes.proofs.node.path_walk.nearest.nearer.Goals as goal

pub returns-in-Some-clause-pair : goal.returns-in-Some-clause-pair
returns-in-Some-clause-pair g c = λ end bound. nearer-place end c.args.place c.in-Some.place
    (take c.args.depth bound ++ g.P.Partial.bytes c.args.prefix.now) _ c.in-Some.is
