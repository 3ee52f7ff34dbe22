use Rattle.std.proofs.Common.{◌∙◌, sym, ap, length, is_some, if◌then◌else◌}
use Rattle.rart_parts.specs.Entries.{child_at}
use Rattle.rart_trie.specs.storages.Stored.{child_entries, storage_capacity}
use Rattle.rart_trie.specs.storages.Capacities.{shrunk_capacity}
use Rattle.rart_trie.proofs.storages.ChildLemmas.{edges_of-length}
use Rattle.rart_trie.proofs.edits.Outcomes.{err-any}
use Rattle.rart_trie.proofs.edits.JoinLemmas.{joins-without, some-there, without-none, without-joined, without-wide}
use Rattle.rart_trie.proofs.tries.Descents.{child_of-entries}
use Rattle.rart_trie.proofs.node.DefaultNode.take_child.Goals as goal
use Rattle.rart_trie.proofs.node.DefaultNode.take_child.Goals.{then-smallest, else-smallest}

pub returns-in_err-child-clause-allocates : goal.returns-in_err-child-clause-allocates
returns-in_err-child-clause-allocates g c = err-any c.from_residual.result (rw (← c.self.view_is) (
  λ e. c.in_err-child.ensures.allocates.0 (sym (child_of-entries c.args.b (child_entries c.self.inside.storage)) ∙ e),
  c.in_err-child.ensures.allocates.1,
  rw (edges_of-length (child_entries c.self.inside.storage)) c.in_err-child.ensures.allocates.2,
))

pub returns-in_default-clause-taken : goal.returns-in_default-clause-taken
returns-in_default-clause-taken g c = rw (← c.self.view_is) (sym c.in_default.is ∙ c.in_ok-child.ensures.taken
    ∙ sym (child_of-entries c.args.b (child_entries c.self.inside.storage)))

pub returns-in_default-clause-rest : goal.returns-in_default-clause-rest
returns-in_default-clause-rest g c =
    let none = sym c.in_ok-child.ensures.taken ∙ c.in_default.is in
    rw (← c.self.view_is, c.in_ok-child.ensures.value_kept, c.in_ok-child.ensures.prefix_kept)
    (without-none _ _ (storage_capacity c.self.inside.storage) _
    c.args.b
    (child_entries c.self.inside.storage) _
    none c.in_ok-child.ensures.entries
    (c.in_ok-child.ensures.capacity ∙ ap (λ o. if is_some o then shrunk_capacity (length
    (child_entries c.delete_child.new.self))
    (storage_capacity c.self.inside.storage) else storage_capacity c.self.inside.storage) none))

pub merge_with_only_child-requires-clause-within : goal.merge_with_only_child-requires-clause-within
merge_with_only_child-requires-clause-within g c
    = rw (c.in_ok-child.ensures.entries, c.in_ok-child.ensures.prefix_kept)
    (joins-without _ _ c.args.b (child_entries c.self.inside.storage)
    (rw (← c.self.view_is) at c.requires.within))

pub returns-clause-taken : goal.returns-clause-taken
returns-clause-taken g c = rw (← c.self.view_is) (sym c.in-Some.is ∙ c.in_ok-child.ensures.taken
    ∙ sym (child_of-entries c.args.b (child_entries c.self.inside.storage)))

pub returns-clause-rest : goal.returns-clause-rest
returns-clause-rest g c =
    let some = sym c.in_ok-child.ensures.taken ∙ c.in-Some.is in
    let there = some-there c.in-Some.child (child_at c.args.b (child_entries c.self.inside.storage)) some in
    let capacity = c.in_ok-child.ensures.capacity ∙ ap
    (λ o. if is_some o then shrunk_capacity (length (child_entries c.delete_child.new.self))
    (storage_capacity c.self.inside.storage)
    else storage_capacity c.self.inside.storage) some in
    rw (← c.self.view_is) (elim c.if-smallest.branch [
      | then-smallest w ↦ w.self-is ∙ w.merge_with_only_child.ensures
          ∙ rw (c.in_ok-child.ensures.value_kept, c.in_ok-child.ensures.prefix_kept)
          (without-joined _ _ (storage_capacity c.self.inside.storage) _ c.args.b
          (child_entries c.self.inside.storage) _
          (sym c.capacity-smallest.ensures ∙ w.if-smallest.true) there c.in_ok-child.ensures.entries capacity)
      | else-smallest w ↦ w.self-is ∙ rw (c.in_ok-child.ensures.value_kept, c.in_ok-child.ensures.prefix_kept)
          (without-wide _ _
          (storage_capacity c.self.inside.storage) _ c.args.b
          (child_entries c.self.inside.storage) _ (λ e. w.if-smallest.false (c.capacity-smallest.ensures ∙ e)) there
          c.in_ok-child.ensures.entries capacity)
    ])
