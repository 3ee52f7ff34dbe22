use Rattle.std.specs.Option.{option_copied}
use Rattle.rart_trie.specs.tries.Tree.{tree_pairs}
use Rattle.rart_nodes.proofs.ranges.DownLemmas.{root-probe, to_bound-all}
use Rattle.rart_trie.proofs.tries.CanonicalTests.{IsCanonicalTree-test}
use Rattle.rart_nodes.proofs.node.seen.Seen.descending_key_walk_within.Goals as goal

pub returns-in-Unbounded-clause-pairs : goal.returns-in-Unbounded-clause-pairs
returns-in-Unbounded-clause-pairs g c =
    rw (c.in-Unbounded.is, to_bound-all (tree_pairs (option_copied c.args.self.root)))
    c.descending_key_walk.ensures.pairs

pub returns-in-Unbounded-clause-visits : goal.returns-in-Unbounded-clause-visits
returns-in-Unbounded-clause-visits g c =
    rw (
      c.in-Unbounded.is,
      ← root-probe (option_copied c.args.self.root)
          (IsCanonicalTree-test _ c.args.self.canonical),
    ) c.descending_key_walk.ensures.visits
