use Rattle.std.proofs.Common.{◌≡◌, ℕ, Bool, true, false, List, length, Option, None, ◌∙◌, ap}
use Rattle.rart_trie.specs.edits.Deletion.{merged_if_needed}
use Rattle.rart_trie.specs.edits.RetainSteps.{finished_node}
use Rattle.rart_trie.specs.storages.Stored.{child_entries, storage_capacity, stored_prefix, stored_value}
use Rattle.rart_trie.specs.tries.Trie.{Trie, node}
use Rattle.rart_trie.specs.tries.TrieCode.{as_children}
use Rattle.rart_trie.proofs.retentions.RetainJoins.{outcome-removed, outcome-kept, finished-removed, finished-kept}
use Rattle.rart_trie.proofs.removals.RemoveSteps.{same-node}
use Rattle.rart_trie.proofs.node.DefaultNode.finish.Goals.{else-not-keeps}
use Rattle.rart_trie.proofs.node.DefaultNode.finish.Goals.{then-not-keeps+else-num_children-eq0+in-Some-1}
use Rattle.rart_trie.proofs.node.DefaultNode.finish.Goals.{then-not-keeps+else-num_children-eq0+in-None-1}
use Rattle.rart_trie.proofs.node.DefaultNode.finish.Goals as goal

module _ {V : Type 0} where
  node-kept : (keeps : Bool) (r m t : Trie V) → r ≡ merged_if_needed m → m ≡ t → keeps ≡ true
      → r ≡ finished_node keeps t
  node-kept keeps r m t a b h = a ∙ ap merged_if_needed b ∙ finished-kept keeps t h

  node-removed : (keeps : Bool) (r m t : Trie V) (p : List ℕ) (v : Option V) (n : ℕ) (es : List (ℕ × Trie V))
      → r ≡ merged_if_needed m → m ≡ node p None n (as_children es) → node p v n (as_children es) ≡ t → keeps ≡ false
      → (length es ≡ 0 → ⊥) → r ≡ finished_node keeps t
  node-removed keeps r m t p v n es a b e h l = a ∙ ap merged_if_needed b ∙ finished-removed keeps p v n es h l
      ∙ ap (finished_node keeps) e

pub returns-clause-outcome : goal.returns-clause-outcome
returns-clause-outcome g c = rw (← c.self.view_is) (elim c.if-not-keeps.branch [
  | then-not-keeps+else-num_children-eq0+in-Some-1 w ↦ outcome-removed c.args.keeps c.args.walk
      (child_entries c.self.inside.storage) w.if-not-keeps.true
      (λ e. w.if-num_children-eq0.false (w.num_children.ensures ∙ e))
  | then-not-keeps+else-num_children-eq0+in-None-1 w ↦ outcome-removed c.args.keeps c.args.walk
      (child_entries c.self.inside.storage) w.if-not-keeps.true
      (λ e. w.if-num_children-eq0.false (w.num_children.ensures ∙ e))
  | else-not-keeps w ↦ outcome-kept c.args.keeps c.args.walk (as_children (child_entries c.self.inside.storage))
      w.if-not-keeps.false
])

pub returns-clause-node : goal.returns-clause-node
returns-clause-node g c = elim c.if-not-keeps.branch [
  | then-not-keeps+else-num_children-eq0+in-Some-1 w ↦ node-removed c.args.keeps c.merge_with_only_child.new.self
      c.if-not-keeps.self c.args.self.now (g.P.Partial.bytes (stored_prefix c.self.inside.storage))
      (stored_value c.self.inside.storage)
      (storage_capacity c.self.inside.storage) (child_entries c.self.inside.storage) c.merge_with_only_child.ensures
      (w.self-is ∙ same-node _ None _ _ (child_entries c.self.inside.storage) _ w.take_value.ensures.emptied.0
      w.take_value.ensures.emptied.1 w.take_value.ensures.emptied.2
      (ap g.P.Partial.bytes w.take_value.ensures.emptied.3)) c.self.view_is w.if-not-keeps.true
      (λ e. w.if-num_children-eq0.false (w.num_children.ensures ∙ e))
  | then-not-keeps+else-num_children-eq0+in-None-1 w ↦ node-removed c.args.keeps c.merge_with_only_child.new.self
      c.if-not-keeps.self c.args.self.now (g.P.Partial.bytes (stored_prefix c.self.inside.storage))
      (stored_value c.self.inside.storage)
      (storage_capacity c.self.inside.storage) (child_entries c.self.inside.storage) c.merge_with_only_child.ensures
      (w.self-is ∙ same-node _ None _ _ (child_entries c.self.inside.storage) _ w.take_value.ensures.emptied.0
      w.take_value.ensures.emptied.1 w.take_value.ensures.emptied.2
      (ap g.P.Partial.bytes w.take_value.ensures.emptied.3)) c.self.view_is w.if-not-keeps.true
      (λ e. w.if-num_children-eq0.false (w.num_children.ensures ∙ e))
  | else-not-keeps w ↦ node-kept c.args.keeps c.merge_with_only_child.new.self c.if-not-keeps.self c.args.self.now
      c.merge_with_only_child.ensures w.self-is w.if-not-keeps.false
]
