use Rattle.std.proofs.Common.{ap, refl, ◌∙◌}
use Rattle.std.specs.Option.{option_copied}
use Rattle.rart_trie.specs.walks.Walk.{join_all}
use Rattle.rart_nodes.specs.walks.PathParts.{byte_segments}
use Rattle.rart_nodes.proofs.walks.PathLemmas.{key-walk}
use Rattle.rart_nodes.proofs.ranges.ComparedEntries.{is_before, tree-by}
use Rattle.rart_nodes.proofs.walks.EntryLemmas.{joins-bytes}
use Rattle.rart_nodes.proofs.node.seen.Seen.descending_key_walk_to.Goals as goal

pub descending_walk_to-requires : goal.descending_walk_to-requires
descending_walk_to-requires g c κs = ((refl, tt), joins-bytes)

pub invariant_of-result : goal.invariant_of-result
invariant_of-result g c
    = key-walk c.in_ok-walk.ensures.path c.in_ok-walk.ensures.reserved c.in_ok-walk.ensures.longest c.args.self.fits

pub returns-clause-pairs : goal.returns-clause-pairs
returns-clause-pairs g c = ap join_all c.in_ok-walk.ensures.entries
    ∙ tree-by (is_before c.args.included) byte_segments c.args.end.now (option_copied c.args.self.root) joins-bytes
