use Rattle.std.proofs.Common.{ap, ◌∙◌, sym, refl, Some}
use Rattle.rart_parts.specs.Entries.{child_at}
use Rattle.rart_trie.specs.storages.Stored.{child_entries, storage_capacity, stored_prefix, stored_value}
use Rattle.rart_trie.specs.tries.Trie.{node}
use Rattle.rart_trie.specs.tries.TrieCode.{as_children}
use Rattle.rart_trie.specs.edits.TreeUpdates.{PutAllocates}
use Rattle.rart_trie.proofs.edits.InsertLemmas.{put-beside, record-no_child}
use Rattle.rart_trie.proofs.edits.PutAllocationLemmas.{put_allocation-full}
use Rattle.rart_trie.proofs.removals.RemoveSteps.{same-node}
use Rattle.rart_trie.proofs.edits.UpdateSteps.{refuses-memory, none-at}
use Rattle.rart_trie.proofs.node.DefaultNode.apply_to_child.Goals as goal

pub reserve_slot-requires : goal.reserve_slot-requires
reserve_slot-requires g c = record {
  absent
      = none-at c.args.byte (child_entries c.self.inside.storage) (rw (← c.self.view_is) at c.requires.absent);
}

pub add_leaf-requires-clause-absent : goal.add_leaf-requires-clause-absent
add_leaf-requires-clause-absent g c = ap (child_at _) c.in-Ok.ensures.entries
    ∙ none-at c.args.byte (child_entries c.self.inside.storage) (rw (← c.self.view_is) at c.requires.absent)

pub returns-in-Ok : goal.returns-in-Ok
returns-in-Ok g c = λ key h. rw c.in-Insert.is (
  ap Some (rw (
    ← c.self.view_is,
    c.add_leaf.ensures.value_kept,
    c.in-Ok.ensures.value_kept,
    c.add_leaf.ensures.prefix_kept,
    c.in-Ok.ensures.prefix_kept,
  ) (put-beside _ key _
      c.in-Insert.value _ _ _ _ (child_entries c.self.inside.storage) _
      (rw (← c.self.view_is) at c.requires.canonical) (rw (← c.self.view_is) at h) c.requires.first_byte
      (sym (none-at c.args.byte (child_entries c.self.inside.storage) (rw (← c.self.view_is) at c.requires.absent)))
      (c.add_leaf.ensures.capacity ∙ c.in-Ok.ensures.capacity)
      (rw (c.add_leaf.ensures.entries, c.in-Ok.ensures.entries) refl))),
  refl,
  c.if-full.false,
)

pub returns-in-Err : goal.returns-in-Err
returns-in-Err g c = λ key h.
    let after = rw (← c.self.view_is) at h in
    let none = sym (none-at c.args.byte (child_entries c.self.inside.storage) (rw
    (← c.self.view_is) at c.requires.absent)) in
    let allocates : PutAllocates key (Some (node (g.P.Partial.bytes (stored_prefix c.self.inside.storage))
    (stored_value c.self.inside.storage)
    (storage_capacity c.self.inside.storage) (as_children (child_entries c.self.inside.storage)))) = (
      put_allocation-full (g.P.Partial.bytes (stored_prefix c.self.inside.storage)) key _
          (stored_value c.self.inside.storage)
          (storage_capacity c.self.inside.storage)
          (storage_capacity c.self.inside.storage) _ (child_entries c.self.inside.storage)
          (child_entries c.self.inside.storage) after
          c.requires.first_byte none refl refl c.in-Err.ensures.allocates,
      record-no_child (g.P.Partial.bytes (stored_prefix c.self.inside.storage)) key _
          (stored_value c.self.inside.storage)
          (storage_capacity c.self.inside.storage) _ (child_entries c.self.inside.storage) after
          c.requires.first_byte none,
    ) in (
      ap Some (same-node (g.P.Partial.bytes (stored_prefix c.self.inside.storage)) (stored_value c.self.inside.storage)
          (storage_capacity c.self.inside.storage)
          (storage_capacity c.reserve_slot.new.self) (child_entries c.self.inside.storage)
          (child_entries c.reserve_slot.new.self)
          (ap storage_capacity c.in-Err.ensures.unchanged) (ap child_entries c.in-Err.ensures.unchanged)
          (ap stored_value c.in-Err.ensures.unchanged)
          (ap (λ s. g.P.Partial.bytes (stored_prefix s)) c.in-Err.ensures.unchanged)
          ∙ c.self.view_is),
      c.in-Insert.is,
      refl,
      refuses-memory c.args.full key (Some c.args.self.now) c.in-Err.error c.in-Err.ensures.memory c.if-full.false
          (rw (← c.self.view_is) allocates),
    )
