use Rattle.rart_trie.proofs.node.DefaultNode.+pop_below.Given as goal

abbrev pub decreases-pop_below : goal.decreases-pop_below
decreases-pop_below g l = goal.size-pop_below g l
