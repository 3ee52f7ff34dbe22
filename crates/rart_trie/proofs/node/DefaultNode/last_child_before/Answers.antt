use Rattle.std.proofs.Common.{sym, ap, ◌∙◌}
use Rattle.rart_trie.specs.tries.Ends.{last_child}
use Rattle.rart_trie.specs.storages.Stored.{child_entries}
use Rattle.rart_trie.specs.ranges.Under.{entries_under}
use Rattle.rart_trie.proofs.storages.UnderLemmas.{as_children-under}
use Rattle.rart_trie.proofs.storages.EndEntries.{last_child-entries}
use Rattle.rart_trie.proofs.node.DefaultNode.last_child_before.Goals as goal

pub returns-in-None : goal.returns-in-None
returns-in-None g c = rw (← c.self.view_is) (rw c.in-None.is (c.last_child.ensures
    ∙ sym (last_child-entries (child_entries c.self.inside.storage))))

pub returns-in-Some : goal.returns-in-Some
returns-in-Some g c = rw (← c.self.view_is) (rw c.in-Some.is (c.last_child_under.ensures
    ∙ sym (last_child-entries (entries_under c.in-Some.byte (child_entries c.self.inside.storage)))
    ∙ ap last_child (as_children-under c.in-Some.byte (child_entries c.self.inside.storage))))
