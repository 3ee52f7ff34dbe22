use Rattle.std.proofs.Common.{◌∙◌}
use Rattle.rart_trie.specs.storages.Stored.{stored_prefix}
use Rattle.rart_trie.proofs.tries.BelowLemmas.{starts_with-begins}
use Rattle.rart_trie.proofs.node.DefaultNode.is_below.Goals as goal

pub returns-clause-value : goal.returns-clause-value
returns-clause-value g c = rw (← c.self.view_is) ((rw c.prefix.ensures at c.starts_with.ensures)
    ∙ starts_with-begins c.args.prefix.now (g.P.Partial.bytes (stored_prefix c.self.inside.storage)))
