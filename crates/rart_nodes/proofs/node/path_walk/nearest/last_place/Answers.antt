use Rattle.std.proofs.Common.{◌∙◌, ap, sym, None}
use Rattle.std.specs.Option.{option_copied}
use Rattle.rart_keys.specs.Filters.{last_or}
use Rattle.rart_trie.specs.ranges.Under.{children_before}
use Rattle.rart_trie.specs.tries.Trie.{children_in, own_pair}
use Rattle.rart_nodes.proofs.ranges.NearestPlaces.{last-among, last-own}
use Rattle.rart_nodes.proofs.walks.PathLemmas.{before-part}
use Rattle.rart_nodes.proofs.node.path_walk.nearest.last_place.Goals as goal

pub returns-in-Some-clause-pair : goal.returns-in-Some-clause-pair
returns-in-Some-clause-pair g c = (last-among (option_copied c.args.value)
    (children_before c.args.edge (children_in c.args.at.node.now)) c.in-Some.child.node.now
    (before-part c.args.edge c.args.at.node.now c.args.at.canonical).0 c.in-Some.ensures).0

pub returns-in-Some-clause-below : goal.returns-in-Some-clause-below
returns-in-Some-clause-below g c = (last-among (option_copied c.args.value)
    (children_before c.args.edge (children_in c.args.at.node.now)) c.in-Some.child.node.now
    (before-part c.args.edge c.args.at.node.now c.args.at.canonical).0 c.in-Some.ensures).1

pub returns-in_default-value-clause-pair : goal.returns-in_default-value-clause-pair
returns-in_default-value-clause-pair g c
    = ap (λ v. last_or None (own_pair (option_copied v))) (sym c.in_default-value.is)
    ∙ last-own (option_copied c.args.value) (children_before c.args.edge (children_in c.args.at.node.now))
    c.in_default.ensures

pub returns-clause-pair : goal.returns-clause-pair
returns-clause-pair g c = ap (λ v. last_or None (own_pair (option_copied v))) (sym c.in-Some-value.is)
    ∙ last-own (option_copied c.args.value) (children_before c.args.edge (children_in c.args.at.node.now))
    c.in_default.ensures
