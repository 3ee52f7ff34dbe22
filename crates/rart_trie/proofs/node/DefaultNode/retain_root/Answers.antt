use Rattle.rart_trie.specs.ranges.Parts.{pairs_in}
use Rattle.rart_trie.specs.tries.PrefixLaws.{prefix-none}
use Rattle.rart_trie.specs.tries.Trie.{pairs_of}
use Rattle.rart_trie.proofs.node.DefaultNode.retain_root.Goals as goal

pub retain_part-requires-clause-callable : goal.retain_part-requires-clause-callable
retain_part-requires-clause-callable g c = rw (
  c.from_slice-path.ensures,
  prefix-none (pairs_in c.args.part (pairs_of
      c.args.self.now)),
)
    c.requires.callable
