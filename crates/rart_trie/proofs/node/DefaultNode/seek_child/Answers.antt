use Rattle.std.proofs.Common.{sym, ◌∙◌}
use Rattle.rart_trie.specs.storages.Stored.{child_entries}
use Rattle.rart_trie.proofs.tries.Descents.{child_of-entries}
use Rattle.rart_trie.proofs.node.DefaultNode.seek_child.Goals as goal

pub returns : goal.returns
returns g c = rw (← c.self.view_is) (c.seek_child.ensures
    ∙ sym (child_of-entries c.args.b (child_entries c.self.inside.storage)))
