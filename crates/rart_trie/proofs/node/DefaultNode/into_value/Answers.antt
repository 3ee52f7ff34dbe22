use Rattle.std.proofs.Common.{ap, ◌∙◌}
use Rattle.rart_trie.specs.storages.Stored.{child_entries}
use Rattle.rart_trie.specs.tries.Trie.{value_of}
use Rattle.rart_trie.proofs.edits.LeafLemmas.{no-edges}
use Rattle.rart_trie.proofs.node.DefaultNode.into_value.Goals as goal

pub into_value-requires : goal.into_value-requires
into_value-requires g c = no-edges (child_entries c.self.inside.storage) (rw (← c.self.view_is) at c.requires)

pub returns : goal.returns
returns g c = c.into_value.ensures ∙ ap value_of c.self.view_is
