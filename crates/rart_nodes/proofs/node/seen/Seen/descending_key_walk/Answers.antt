use Rattle.std.proofs.Common.{ap, ◌∙◌}
use Rattle.std.specs.Option.{option_copied}
use Rattle.rart_trie.specs.walks.Walk.{join_all}
use Rattle.rart_nodes.specs.walks.PathParts.{byte_segments}
use Rattle.rart_nodes.proofs.walks.PathLemmas.{key-walk}
use Rattle.rart_nodes.proofs.walks.EntryLemmas.{joined-tree, joins-bytes}
use Rattle.rart_nodes.proofs.node.seen.Seen.descending_key_walk.Goals as goal

pub invariant_of-result : goal.invariant_of-result
invariant_of-result g c
    = key-walk c.in_ok-walk.ensures.path c.in_ok-walk.ensures.reserved c.in_ok-walk.ensures.longest c.args.self.fits

pub returns-clause-pairs : goal.returns-clause-pairs
returns-clause-pairs g c = ap join_all c.in_ok-walk.ensures.entries
    ∙ joined-tree byte_segments (option_copied c.args.self.root) joins-bytes
