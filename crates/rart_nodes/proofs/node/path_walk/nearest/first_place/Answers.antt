use Rattle.std.proofs.Common.{ap}
use Rattle.std.specs.Option.{option_copied}
use Rattle.rart_nodes.specs.ranges.Steps.{children_after}
use Rattle.rart_trie.specs.tries.Trie.{children_in}
use Rattle.rart_nodes.proofs.ranges.NearestPlaces.{first-among}
use Rattle.rart_nodes.proofs.walks.PathLemmas.{after-part}
use Rattle.rart_nodes.proofs.node.path_walk.nearest.first_place.Goals as goal

pub returns-clause-pair : goal.returns-clause-pair
returns-clause-pair g c = (first-among (option_copied c.args.value)
    (children_after c.args.edge (children_in c.args.at.node.now)) c.in_ok-child.child.node.now
    (after-part c.args.edge c.args.at.node.now c.args.at.canonical).0 (ap option_copied c.in_default.is)
    c.in_ok-child.ensures).0

pub returns-clause-below : goal.returns-clause-below
returns-clause-below g c = (first-among (option_copied c.args.value)
    (children_after c.args.edge (children_in c.args.at.node.now)) c.in_ok-child.child.node.now
    (after-part c.args.edge c.args.at.node.now c.args.at.canonical).0 (ap option_copied c.in_default.is)
    c.in_ok-child.ensures).1
