use Rattle.std.specs.Option.{option_copied}
use Rattle.rart_trie.proofs.tries.CanonicalTests.{test-IsCanonicalTree}
use Rattle.rart_nodes.proofs.node.seen.Seen.of.Goals as goal

pub invariant_of-result : goal.invariant_of-result
invariant_of-result g c = record {
  canonical = test-IsCanonicalTree (option_copied c.args.root) c.requires.canonical;
  short = c.requires.bounds_keys;
  fits = c.requires.within;
}
