use Rattle.std.proofs.Common.{sym}
use Rattle.rart_trie.proofs.tries.StepLemmas.{child-canonical}
use Rattle.rart_nodes.proofs.node.seen.Entered.child.Goals as goal

pub invariant_of-result : goal.invariant_of-result
invariant_of-result g c = record {
  canonical
      = child-canonical c.args.b c.args.self.node.now c.in_ok-node.node.now c.args.self.canonical
      (sym c.in_ok-node.ensures);
}
