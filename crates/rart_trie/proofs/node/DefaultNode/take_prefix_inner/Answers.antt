use Rattle.rart_trie.proofs.removals.PrefixAllocations.{allocates-take}
use Rattle.rart_trie.proofs.node.DefaultNode.take_prefix_inner.Goals as goal

pub returns-clause-allocates : goal.returns-clause-allocates
returns-clause-allocates g c = allocates-take c.args.prefix.now c.args.self.now c.requires.canonical
    c.in-Err.ensures.allocates
