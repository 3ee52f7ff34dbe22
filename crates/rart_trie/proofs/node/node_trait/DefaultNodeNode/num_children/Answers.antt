use Rattle.std.proofs.Common.{◌∙◌, sym}
use Rattle.rart_trie.specs.storages.Stored.{child_entries}
use Rattle.rart_trie.proofs.storages.ChildLemmas.{edges_of-length}
use Rattle.rart_trie.proofs.node.node_trait.DefaultNodeNode.num_children.Goals as goal

pub returns : goal.returns
returns g c = rw (← c.self.view_is) (c.num_children.ensures ∙ sym (edges_of-length
    (child_entries c.self.inside.storage)))
