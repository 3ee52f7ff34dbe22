use Rattle.std.proofs.Common.{◌∙◌, ap, refl, Some}
use Rattle.rart_trie.specs.edits.NodeEdits.{with_value}
use Rattle.rart_trie.specs.storages.Stored.{child_entries}
use Rattle.rart_trie.specs.tries.Trie.{value_of}
use Rattle.rart_trie.proofs.edits.Outcomes.{on_some_weaker}
use Rattle.rart_trie.proofs.removals.RemoveSteps.{same-node}
use Rattle.rart_trie.proofs.node.node_trait.DefaultNodeNode.value_mut.Goals as goal

pub returns : goal.returns
returns g c = (
  (
    refl,
    λ w. on_some_weaker c.value_mut.result (λ h. same-node _ (Some w) _ _ (child_entries c.self.inside.storage) _ h.0
        h.1
        h.2 (ap g.P.Partial.bytes h.3) ∙ ap (with_value w) c.self.view_is) (c.value_mut.follows.holds w).0,
    let left = c.value_mut.follows.holds-at-none in
        same-node _ _ _ _ (child_entries c.self.inside.storage) _ left.0 left.1 left.2 (ap g.P.Partial.bytes left.3)
        ∙ c.self.view_is,
  ),
  record { writes_back = tt; value = c.value_mut.ensures.value ∙ ap value_of c.self.view_is },
)
