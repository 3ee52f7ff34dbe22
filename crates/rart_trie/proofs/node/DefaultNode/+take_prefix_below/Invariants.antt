use Rattle.rart_trie.proofs.node.DefaultNode.+take_prefix_below.Given as goal

abbrev pub decreases-take_prefix_below : goal.decreases-take_prefix_below
decreases-take_prefix_below g l = goal.size-take_prefix_below g l
