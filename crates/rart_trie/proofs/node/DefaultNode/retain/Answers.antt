use Rattle.rart_trie.specs.tries.Tree.{tree_pairs}
use Rattle.rart_trie.proofs.retentions.PartRetentions.{callable-every, retains-every}
use Rattle.rart_trie.proofs.node.DefaultNode.retain.Goals as goal

pub retain_in-requires-clause-callable : goal.retain_in-requires-clause-callable
retain_in-requires-clause-callable g c = callable-every _ c.args.f.now (tree_pairs c.args.root.now) c.requires.callable

pub returns-clause-retains : goal.returns-clause-retains
returns-clause-retains g c = retains-every _ c.args.f.now (tree_pairs c.args.root.now) c.retain_in.result
    (tree_pairs c.retain_in.new.root) c.retain_in.new.f c.retain_in.ensures.retains
