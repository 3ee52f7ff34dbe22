use Rattle.std.proofs.Common.{◌∙◌, sym, ap}
use Rattle.rart_parts.specs.Entries.{child_at, with_entry}
use Rattle.rart_trie.specs.storages.Stored.{child_entries, storage_capacity}
use Rattle.rart_trie.proofs.storages.ChildLemmas.{edges_of-length}
use Rattle.rart_trie.proofs.edits.NodeEditLemmas.{with_child-is}
use Rattle.rart_trie.proofs.tries.Descents.{child_of-entries}
use Rattle.rart_trie.proofs.node.node_trait.DefaultNodeNode.add_child.Goals as goal

pub reserve_slot-requires : goal.reserve_slot-requires
reserve_slot-requires g c = record {
  absent = sym (child_of-entries c.args.key (child_entries c.self.inside.storage))
      ∙ rw (← c.self.view_is) at c.requires.absent;
}

pub add_within-requires-clause-absent : goal.add_within-requires-clause-absent
add_within-requires-clause-absent g c = ap (child_at c.args.key) c.in-Ok.ensures.entries
    ∙ sym (child_of-entries c.args.key (child_entries c.self.inside.storage)) ∙ rw
    (← c.self.view_is) at c.requires.absent

pub returns-in-Ok-clause-ok : goal.returns-in-Ok-clause-ok
returns-in-Ok-clause-ok g c = rw (
  ← c.self.view_is,
  c.add_within.ensures.value_kept,
  c.in-Ok.ensures.value_kept,
  c.add_within.ensures.prefix_kept,
  c.in-Ok.ensures.prefix_kept,
)
    (with_child-is _ _ (storage_capacity c.self.inside.storage) _ c.args.key c.args.node
    (child_entries c.self.inside.storage) _
    (c.add_within.ensures.capacity ∙ c.in-Ok.ensures.capacity) (c.add_within.ensures.entries
    ∙ ap (with_entry c.args.key c.args.node) c.in-Ok.ensures.entries))

pub returns-in-Err-clause-allocates : goal.returns-in-Err-clause-allocates
returns-in-Err-clause-allocates g c = rw (← c.self.view_is) (edges_of-length (child_entries c.self.inside.storage)
    ∙ c.in-Err.ensures.allocates)
