use Rattle.std.proofs.Common.{◌∙◌, sym, ap}
use Rattle.rart_parts.specs.Entries.{replaced_at}
use Rattle.rart_trie.specs.storages.Stored.{child_entries, storage_capacity}
use Rattle.rart_trie.proofs.edits.ChildChangeLemmas.{with_child_replaced-is}
use Rattle.rart_trie.proofs.tries.Descents.{child_of-entries}
use Rattle.rart_trie.proofs.node.node_trait.DefaultNodeNode.replace_child.Goals.{in-Some, in-None}
use Rattle.rart_trie.proofs.node.node_trait.DefaultNodeNode.replace_child.Goals as goal

pub returns-clause-taken : goal.returns-clause-taken
returns-clause-taken g c = elim c.match-seek_child_mut.branch [
  | in-Some w ↦ rw (w.result-is, w.replace.ensures.value, ← c.self.view_is)
      (child_of-entries c.args.key (child_entries c.self.inside.storage) ∙ sym w.in-Some.ensures.value)
  | in-None w ↦ rw w.result-is tt
]

pub returns-clause-put : goal.returns-clause-put
returns-clause-put g c = elim c.match-seek_child_mut.branch [
  | in-Some w ↦ let left = rw w.in-Some.is at c.seek_child_mut.follows.holds w.replace.new.dest in
      rw (w.result-is, w.self-inside-is, ← c.self.view_is, left.2, left.3)
      (with_child_replaced-is _ _ (storage_capacity c.self.inside.storage) _ c.args.key c.args.node
      (child_entries c.self.inside.storage) _
      left.0 (left.1 ∙ ap (λ t. replaced_at c.args.key t (child_entries c.self.inside.storage))
      w.replace.ensures.after))
  | in-None w ↦ rw w.result-is tt
]

pub returns-clause-absent : goal.returns-clause-absent
returns-clause-absent g c = elim c.match-seek_child_mut.branch [
  | in-Some w ↦ rw w.result-is tt
  | in-None w ↦ let left = c.seek_child_mut.follows.holds-at-none in
      rw (w.result-is, w.self-inside-is) (
        rw (← c.self.view_is)
            (child_of-entries c.args.key (child_entries c.self.inside.storage) ∙ sym w.in-None.ensures.value),
        rw (left.0, left.1, left.2, left.3) c.self.view_is,
      )
]
