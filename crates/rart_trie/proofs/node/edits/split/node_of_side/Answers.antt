use Rattle.std.proofs.Common.{◌∙◌, ap, sym, length, Some, inl, inr}
use Rattle.rart_trie.specs.shapes.Shape.{capacity_of}
use Rattle.rart_trie.specs.storages.Stored.{child_entries}
use Rattle.rart_trie.proofs.splits.SplitTries.{made-side, merge-four}
use Rattle.rart_trie.proofs.node.edits.split.node_of_side.Goals as goal
use Rattle.rart_trie.proofs.node.edits.split.node_of_side.Goals.{else-num_children-eq0-via-else-num_children-eq0}
use Rattle.rart_trie.proofs.node.edits.split.node_of_side.Goals.{
  else-num_children-eq0-via-then-num_children-eq0+else-not-has_value,
}

pub merge_with_only_child-requires-clause-capacity :
    goal.merge_with_only_child-requires-clause-capacity
merge_with_only_child-requires-clause-capacity g c = λ h. merge-four _ _ (child_entries c.with_prefix.result)
    (c.with_prefix.ensures.capacity ∙ c.requires.0
    ∙ ap (λ es. capacity_of (length es)) (sym c.with_prefix.ensures.entries)) h

pub returns : goal.returns
returns g c = ap Some c.merge_with_only_child.ensures ∙ made-side _ _ _ _ _ _ _ _
    (ap g.P.Partial.bytes c.with_prefix.ensures.prefix ∙ c.copy_of.ensures) c.with_prefix.ensures.value
    c.with_prefix.ensures.capacity c.with_prefix.ensures.entries c.requires.0
    (elim c.else-num_children-eq0.branch [
      | else-num_children-eq0-via-then-num_children-eq0+else-not-has_value w
          ↦ inl (sym w.has_value.ensures ∙ w.if-not-has_value.false)
      | else-num_children-eq0-via-else-num_children-eq0 w
          ↦ inr (λ e. w.if-num_children-eq0.false (c.num_children.ensures ∙ e))
    ])
