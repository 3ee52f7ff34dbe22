use Rattle.std.proofs.Common.{sym}
use Rattle.rart_trie.proofs.tries.EndLemmas.{end-canonical}
use Rattle.rart_nodes.proofs.node.seen.Entered.end_child.Goals as goal

pub invariant_of-result : goal.invariant_of-result
invariant_of-result g c = record {
  canonical = end-canonical c.args.end _ c.args.self.node.now _ c.args.self.canonical (sym c.in_ok-node.ensures);
}
