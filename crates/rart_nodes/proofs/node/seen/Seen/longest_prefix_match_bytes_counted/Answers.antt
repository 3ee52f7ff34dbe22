use Rattle.std.proofs.Common.{ap, arith, length, take}
use Rattle.std.specs.Option.{option_copied}
use Rattle.rart_trie.specs.tries.Tree.{tree_pairs}
use Rattle.rart_trie.proofs.edits.InsertLemmas.{fewer-within}
use Rattle.rart_nodes.proofs.walks.MatchLemmas.{match-short}
use Rattle.rart_nodes.proofs.node.seen.Seen.longest_prefix_match_bytes_counted.Goals as goal

pub new_from_slice-requires : goal.new_from_slice-requires
new_from_slice-requires g c =
    let short = match-short c.args.probe.now (tree_pairs (option_copied c.args.self.root))
    (take c.in_ok-depth.depth c.args.probe.now) c.in_ok-depth.value.now c.in_ok-depth.ensures.pair in
    fewer-within _ c.args.self.longest _ (omega (arith, short, c.args.self.short, ap length c.probe_start.ensures))
    c.args.self.fits
