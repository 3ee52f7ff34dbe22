use Rattle.rart_trie.proofs.node.DefaultNode.+change_below.Given as goal

abbrev pub decreases-change_below : goal.decreases-change_below
decreases-change_below g l = goal.size-change_below g l
