use Rattle.std.proofs.Common.{ap, subst, sym, ◌∙◌}
use Rattle.rart_parts.specs.Entries.{BytesAscend}
use Rattle.rart_trie.specs.ranges.Starts.{children_above}
use Rattle.rart_trie.specs.storages.Stored.{child_entries}
use Rattle.rart_trie.specs.tries.Trie.{children_in}
use Rattle.rart_trie.specs.tries.TrieCode.{as_children}
use Rattle.rart_trie.proofs.storages.UnderLemmas.{as_children-above}
use Rattle.rart_trie.proofs.node.DefaultNode.iter_above.Goals as goal

pub returns-clause-children : goal.returns-clause-children
returns-clause-children g c =
    ap as_children c.iter_above.ensures.entries ∙ as_children-above c.args.byte (child_entries c.self.inside.storage)
    ∙ ap (λ t. children_above c.args.byte (children_in t)) c.self.view_is

pub returns-clause-ascending : goal.returns-clause-ascending
returns-clause-ascending g c = subst BytesAscend (sym c.iter_above.ensures.entries) c.iter_above.ensures.ascending
