use Rattle.std.proofs.Common.{ap, refl, ◌∙◌}
use Rattle.std.specs.Option.{option_copied}
use Rattle.rart_trie.specs.walks.Walk.{join_all}
use Rattle.rart_nodes.specs.walks.PathParts.{byte_segments}
use Rattle.rart_nodes.proofs.walks.PathLemmas.{key-walk}
use Rattle.rart_nodes.proofs.ranges.ComparedEntries.{is_after, tree-by}
use Rattle.rart_nodes.proofs.walks.EntryLemmas.{joins-bytes}
use Rattle.rart_nodes.proofs.node.seen.Seen.key_walk_from.Goals as goal

pub walk_from-requires : goal.walk_from-requires
walk_from-requires g c κs = ((refl, tt), joins-bytes)

pub invariant_of-result : goal.invariant_of-result
invariant_of-result g c
    = key-walk c.in_ok-walk.ensures.path c.in_ok-walk.ensures.reserved c.in_ok-walk.ensures.longest c.args.self.fits

pub returns-clause-pairs : goal.returns-clause-pairs
returns-clause-pairs g c = ap join_all c.in_ok-walk.ensures.entries
    ∙ tree-by (is_after c.args.included) byte_segments c.args.start.now (option_copied c.args.self.root) joins-bytes
