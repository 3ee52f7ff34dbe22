use Rattle.std.proofs.Common.{◌∙◌, sym, refl, ap, Some}
use Rattle.rart_trie.specs.edits.ChildChanges.{value_if}
use Rattle.rart_trie.specs.edits.NodeEdits.{with_value}
use Rattle.rart_trie.specs.tries.Trie.{node, value_of}
use Rattle.rart_trie.specs.tries.TrieCode.{as_children}
use Rattle.rart_trie.specs.storages.Stored.{child_entries, storage_capacity, stored_prefix, stored_value}
use Rattle.rart_trie.proofs.edits.ChildChangeLemmas.{with_child_value-is}
use Rattle.rart_trie.proofs.edits.InsertLemmas.{child-put_back}
use Rattle.rart_trie.proofs.edits.Outcomes.{on_some_weaker}
use Rattle.rart_trie.proofs.removals.RemoveSteps.{same-node}
use Rattle.rart_trie.proofs.tries.Descents.{child_of-entries}
use Rattle.rart_trie.proofs.node.node_trait.DefaultNodeNode.child_value_mut.Goals as goal

pub returns-in-Some : goal.returns-in-Some
returns-in-Some g c =
    let found = c.in-Some.ensures.value in (
      (
        refl,
        λ w. let l = c.value_mut.follows.lender w in
            let child = node (g.P.Partial.bytes (stored_prefix l)) (stored_value l) (storage_capacity l)
            (as_children (child_entries l)) in
            let left = rw c.in-Some.is at c.seek_child_mut.follows.holds child in
            on_some_weaker c.value_mut.result (λ h. rw (← c.self.view_is, left.2, left.3)
            (with_child_value-is _ _ (storage_capacity c.self.inside.storage) _ c.args.key w c.in-Some.child.now child
            (child_entries c.self.inside.storage) _ found
            (same-node _ (Some w) _ _ (child_entries c.child.inside.storage) _ h.0 h.1 h.2 (ap g.P.Partial.bytes h.3)
            ∙ ap (with_value w) c.child.view_is) left.0 left.1)) (c.value_mut.follows.holds w).0,
        let l = c.value_mut.follows.lender-at-none in
            let child = node (g.P.Partial.bytes (stored_prefix l)) (stored_value l) (storage_capacity l)
            (as_children (child_entries l)) in
            let left = rw c.in-Some.is at c.seek_child_mut.follows.holds child in
            let same = c.value_mut.follows.holds-at-none in
            child-put_back _ _ _ _ _ c.in-Some.child.now child (child_entries c.self.inside.storage) _ found
            (same-node _ _ _ _ (child_entries c.child.inside.storage) _ same.0 same.1 same.2
            (ap g.P.Partial.bytes same.3) ∙ c.child.view_is)
            left.0 left.1 left.2 (ap g.P.Partial.bytes left.3) ∙ c.self.view_is,
      ),
      record {
        writes_back = tt;
        value = rw (← c.self.view_is) (c.value_mut.ensures.value ∙ ap value_of c.child.view_is
            ∙ ap value_if (found ∙ sym (child_of-entries c.args.key (child_entries c.self.inside.storage))));
      },
    )

pub returns-in-None : goal.returns-in-None
returns-in-None g c =
    let left = c.seek_child_mut.follows.holds-at-none in (
      (refl, λ w. tt, rw (left.0, left.1, left.2, left.3) c.self.view_is),
      record {
        writes_back = tt;
        value = rw (← c.self.view_is) (ap value_if
            (sym (child_of-entries c.args.key (child_entries c.self.inside.storage) ∙ sym c.in-None.ensures.value)));
      },
    )
