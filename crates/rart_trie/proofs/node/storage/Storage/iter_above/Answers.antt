use Rattle.rart_trie.proofs.node.storage.Storage.iter_above.Goals as goal

pub returns-in-Node4-clause-ascending : goal.returns-in-Node4-clause-ascending
returns-in-Node4-clause-ascending g c = rw (← c.self.view_is, c.in-Node4.is) c.iter_above.ensures.ascending

pub returns-in-Node16-clause-ascending : goal.returns-in-Node16-clause-ascending
returns-in-Node16-clause-ascending g c = rw (← c.self.view_is, c.in-Node16.is) c.iter_above-in-Node16.ensures.ascending

pub returns-in-Node48-clause-ascending : goal.returns-in-Node48-clause-ascending
returns-in-Node48-clause-ascending g c = rw (← c.self.view_is, c.in-Node48.is) c.iter_above-in-Node48.ensures.ascending

pub returns-in-Node256-clause-ascending : goal.returns-in-Node256-clause-ascending
returns-in-Node256-clause-ascending g c = rw (
  ← c.self.view_is,
  c.in-Node256.is,
) c.iter_above-in-Node256.ensures.ascending
