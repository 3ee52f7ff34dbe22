use Rattle.std.specs.Option.{option_copied}
use Rattle.rart_keys.specs.Joins.{join}
use Rattle.rart_trie.specs.tries.Tree.{tree_pairs}
use Rattle.rart_nodes.proofs.joins.VisitorLemmas.{count-is}
use Rattle.rart_nodes.proofs.node.seen.Seen.intersect_count_counted.Goals as goal

pub returns-clause-count : goal.returns-clause-count
returns-clause-count g c = count-is _ (join (tree_pairs (option_copied c.args.self.root))
    (tree_pairs (option_copied c.args.other.root))) c.intersect_trees.ensures.calls.1
