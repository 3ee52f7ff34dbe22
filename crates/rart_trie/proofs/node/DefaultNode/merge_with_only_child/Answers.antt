use Rattle.std.proofs.Common.{◌+◌, ◌∙◌, sym, length}
use Rattle.rart_keys.specs.KeyBytes.{IsWithin}
use Rattle.rart_trie.specs.edits.Deletion.{JoinsWithin}
use Rattle.rart_trie.specs.tries.Trie.{prefix_of}
use Rattle.rart_trie.specs.tries.TrieCode.{as_children}
use Rattle.rart_trie.specs.storages.Stored.{child_entries, stored_prefix, stored_value}
use Rattle.rart_trie.proofs.edits.JoinLemmas.{merge-valued, merge-many, merges, joined-not, joins-only}
use Rattle.rart_trie.proofs.node.DefaultNode.merge_with_only_child.Goals as goal
use Rattle.rart_trie.proofs.node.DefaultNode.merge_with_only_child.Goals.{then-has_value-via-then-has_value}
use Rattle.rart_trie.proofs.node.DefaultNode.merge_with_only_child.Goals.{
  then-has_value-via-else-has_value+then-num_children-ne1,
}

pub returns-then-has_value : goal.returns-then-has_value
returns-then-has_value g c = elim c.then-has_value.branch [
  | then-has_value-via-then-has_value w ↦ rw (← c.self.view_is)
      (joined-not _ _ _ _ (merge-valued _ _ (sym c.has_value.ensures ∙ w.if-has_value.true)))
  | then-has_value-via-else-has_value+then-num_children-ne1 w
      ↦ rw (← c.self.view_is) (joined-not _ _ _ _
      (merge-many _ (child_entries c.self.inside.storage) (λ e. w.if-num_children-ne1.true (w.num_children.ensures
      ∙ e))))
]

pub take_only_child-byte-requires-clause-capacity : goal.take_only_child-byte-requires-clause-capacity
take_only_child-byte-requires-clause-capacity g c
    = (rw (← c.self.view_is) at c.requires.capacity)
    (merges (stored_value c.self.inside.storage) (child_entries c.self.inside.storage) (sym c.has_value.ensures
    ∙ c.if-has_value.false)
    (sym c.num_children.ensures ∙ c.if-num_children-ne1.false))

pub partial_extended_with-joined-requires : goal.partial_extended_with-joined-requires
partial_extended_with-joined-requires g c =
    let within : JoinsWithin g.P.Partial.MAXIMUM_SIZE (g.P.Partial.bytes (stored_prefix c.self.inside.storage))
    (as_children (child_entries c.self.inside.storage)) = rw (← c.self.view_is) at c.requires.within in
    let joined : IsWithin g.P.Partial.MAXIMUM_SIZE
    (length (g.P.Partial.bytes (stored_prefix c.self.inside.storage))
    + length (prefix_of c.take_only_child-byte.result.1))
    = joins-only _ _ _ _ (child_entries c.self.inside.storage) c.take_only_child-byte.ensures.taken within in
    rw (c.prefix.ensures, c.take_only_child-byte.ensures.prefix_kept, c.prefix-2.ensures)
    (rw (← c.child.view_is) at joined)
