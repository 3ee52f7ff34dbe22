use Rattle.rart_trie.proofs.storages.EndEntries.{last-entry}
use Rattle.rart_trie.proofs.node.storage.Storage.last_child.Goals as goal

pub returns-in-Node4 : goal.returns-in-Node4
returns-in-Node4 g c = rw (← c.self.view_is, c.in-Node4.is) (last-entry _ _ c.last_under.ensures.ascending
    c.last_under.ensures.bytes c.last_under.ensures.last)

pub returns-in-Node16 : goal.returns-in-Node16
returns-in-Node16 g c = rw (← c.self.view_is, c.in-Node16.is) (last-entry _ _ c.last_under-in-Node16.ensures.ascending
    c.last_under-in-Node16.ensures.bytes c.last_under-in-Node16.ensures.last)

pub returns-in-Node48 : goal.returns-in-Node48
returns-in-Node48 g c = rw (← c.self.view_is, c.in-Node48.is) (last-entry _ _ c.last_under-in-Node48.ensures.ascending
    c.last_under-in-Node48.ensures.bytes c.last_under-in-Node48.ensures.last)

pub returns-in-Node256 : goal.returns-in-Node256
returns-in-Node256 g c = rw (
  ← c.self.view_is,
  c.in-Node256.is,
) (last-entry _ _ c.last_under-in-Node256.ensures.ascending
    c.last_under-in-Node256.ensures.bytes c.last_under-in-Node256.ensures.last)
