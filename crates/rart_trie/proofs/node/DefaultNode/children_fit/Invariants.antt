use Rattle.rart_trie.specs.edits.Deletion.{JoinsWithin}
use Rattle.rart_trie.specs.tries.Trie.{children_in, prefix_of}
use Rattle.rart_trie.specs.tries.TrieCode.{as_children}
use Rattle.rart_trie.proofs.node.DefaultNode.children_fit.Given as goal

-- all children fit exactly if those that are left do
abbrev pub invariant-loop-byte : goal.invariant-loop-byte
invariant-loop-byte g l = record {
  to_all : JoinsWithin g.P.Partial.MAXIMUM_SIZE (prefix_of l.fn.self) (as_children l.children)
      → JoinsWithin g.P.Partial.MAXIMUM_SIZE (prefix_of l.fn.self) (children_in l.fn.self);
  of_all : JoinsWithin g.P.Partial.MAXIMUM_SIZE (prefix_of l.fn.self) (children_in l.fn.self)
      → JoinsWithin g.P.Partial.MAXIMUM_SIZE (prefix_of l.fn.self) (as_children l.children);
}
