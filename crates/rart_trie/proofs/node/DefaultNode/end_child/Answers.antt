use Rattle.std.proofs.Common.{sym, ◌∙◌}
use Rattle.rart_trie.specs.storages.Stored.{child_entries, storage_capacity, stored_prefix, stored_value}
use Rattle.rart_trie.proofs.storages.EndEntries.{first-below, last_child-entries}
use Rattle.rart_trie.proofs.node.DefaultNode.end_child.Goals as goal

pub returns-else-has_value : goal.returns-else-has_value
returns-else-has_value g c = rw (← c.self.view_is) (rw c.in-First.is (c.first_child.ensures
    ∙ sym (first-below (g.P.Partial.bytes (stored_prefix c.self.inside.storage)) (stored_value c.self.inside.storage)
    (storage_capacity c.self.inside.storage)
    (child_entries c.self.inside.storage) (sym c.has_value.ensures ∙ c.if-has_value.false))))

pub returns-in-Last : goal.returns-in-Last
returns-in-Last g c = rw (← c.self.view_is) (rw c.in-Last.is (c.last_child.ensures
    ∙ sym (last_child-entries (child_entries c.self.inside.storage))))
