use Rattle.std.proofs.Common.{ap}
use Rattle.rart_trie.specs.tries.TrieCode.{as_children}
use Rattle.rart_nodes.proofs.walks.WalkLemmas.{next-branches}
use Rattle.rart_nodes.proofs.node.seen.Branches.enter_next.Goals as goal

pub invariant_of-below : goal.invariant_of-below
invariant_of-below g c = record {
  canonical
      = (next-branches _ _ _ _ (ap as_children c.in_ok-node.ensures.steps) c.self.invariant).0;
}

pub invariant_of-self-2 : goal.invariant_of-self-2
invariant_of-self-2 g c = (next-branches _ _ _ _ (ap as_children c.in_ok-node.ensures.steps) c.self.invariant).1
