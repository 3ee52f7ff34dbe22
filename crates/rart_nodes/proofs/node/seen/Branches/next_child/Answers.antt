use Rattle.std.proofs.Common.{ap}
use Rattle.rart_trie.specs.tries.TrieCode.{as_children}
use Rattle.rart_nodes.proofs.walks.WalkLemmas.{next-branches}
use Rattle.rart_nodes.proofs.node.seen.Branches.next_child.Goals as goal

pub invariant_of-child : goal.invariant_of-child
invariant_of-child g c = record {
  canonical
      = (next-branches _ _ _ _ (ap as_children c.in_ok-byte.ensures.steps) c.self.invariant).0;
}

pub invariant_of-self-2 : goal.invariant_of-self-2
invariant_of-self-2 g c = (next-branches _ _ _ _ (ap as_children c.in_ok-byte.ensures.steps) c.self.invariant).1
