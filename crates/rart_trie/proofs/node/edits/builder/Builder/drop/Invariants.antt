use Rattle.std.proofs.Common.{length}
use Rattle.rart_trie.proofs.node.edits.builder.Builder.drop.Given as goal

abbrev pub invariant-loop-node : goal.invariant-loop-node
invariant-loop-node g l = Unit {0}

abbrev pub decreases-loop-node : goal.decreases-loop-node
decreases-loop-node g l = length l.waiting.items
