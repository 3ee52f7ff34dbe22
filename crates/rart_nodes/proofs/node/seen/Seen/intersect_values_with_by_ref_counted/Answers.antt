use Rattle.std.specs.Option.{option_copied}
use Rattle.rart_keys.specs.Joins.{join}
use Rattle.rart_nodes.specs.joins.PairCalls.{CalledWith, TakesWith}
use Rattle.rart_trie.specs.tries.Tree.{tree_pairs}
use Rattle.rart_nodes.proofs.joins.CallLemmas.{always-after-with, can-values}
use Rattle.rart_nodes.proofs.node.seen.Seen.intersect_values_with_by_ref_counted.Goals as goal

pub intersect_trees-requires-clause-callable : goal.intersect_trees-requires-clause-callable
intersect_trees-requires-clause-callable g c =
    can-values (λ p x q. CalledWith g.F.FnMut p x q) (λ p x. TakesWith g.F.FnMut p x) _
    (join (tree_pairs (option_copied c.args.self.root)) (tree_pairs (option_copied c.args.other.root)))
    c.requires.callable

pub returns-clause-stays_callable : goal.returns-clause-stays_callable
returns-clause-stays_callable g c = always-after-with g.F.FnMut _ _ _ c.intersect_trees.ensures.calls.1
