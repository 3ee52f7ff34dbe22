use Rattle.std.proofs.Common.{ap, ◌∙◌}
use Rattle.std.specs.Option.{option_copied}
use Rattle.rart_trie.specs.walks.Walk.{entry_values}
use Rattle.rart_nodes.specs.walks.PathParts.{no_segment}
use Rattle.rart_nodes.proofs.walks.EntryLemmas.{values-tree}
use Rattle.rart_nodes.proofs.node.iter.Seen+K+V+Visits.values_iter.Goals as goal

pub returns-clause-values : goal.returns-clause-values
returns-clause-values g c = ap entry_values c.in_ok-walk.ensures.entries
    ∙ values-tree no_segment (option_copied c.args.self.root)
