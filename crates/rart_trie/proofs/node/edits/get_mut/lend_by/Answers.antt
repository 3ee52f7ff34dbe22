use Rattle.std.proofs.Common.{arith, ap, ◌∙◌, sym, refl}
use Rattle.rart_trie.specs.storages.Stored.{child_entries, storage_capacity, stored_prefix, stored_value}
use Rattle.rart_trie.specs.tries.TrieCode.{node_count}
use Rattle.rart_trie.proofs.storages.ChildLemmas.{canonical-found, count-found}
use Rattle.rart_trie.proofs.edits.InsertLemmas.{put-below, child-put_back}
use Rattle.rart_trie.proofs.edits.Outcomes.{on_some_weaker, if_none_weaker}
use Rattle.rart_trie.proofs.removals.RemoveSteps.{same-node}
use Rattle.rart_trie.proofs.tries.RestLemmas.{Follows, trie_lookup-ended, trie_lookup-child, trie_lookup-no_child}
use Rattle.rart_trie.proofs.tries.RestLemmas.{trie_put-ended}
use Rattle.rart_trie.proofs.node.edits.get_mut.lend_by.Given.{Over}
use Rattle.rart_trie.proofs.node.edits.get_mut.lend_by.Goals.{In-Some-seek_child_mut}
use Rattle.rart_trie.proofs.node.edits.get_mut.lend_by.Goals as goal

pub returns-in_default-first : goal.returns-in_default-first
returns-in_default-first g c = (
  (
    refl,
    λ w. let left = c.value_mut.follows.holds w in (
      on_some_weaker c.value_mut.result (λ h. rw (← c.node.view_is, h.0, h.1, h.2, h.3)
          (sym (trie_put-ended _ c.args.key.now _ w _ _ _ c.in-Some.ensures c.in_default-first.ensures.value))) left.0,
      if_none_weaker c.value_mut.result (λ h. same-node _ _ _ _ (child_entries c.node.inside.storage) _ h.0 h.1 h.2
          (ap g.P.Partial.bytes h.3)
          ∙ c.node.view_is) left.1,
    ),
    let left = c.value_mut.follows.holds-at-none in
        same-node _ _ _ _ (child_entries c.node.inside.storage) _ left.0 left.1 left.2 (ap g.P.Partial.bytes left.3)
        ∙ c.node.view_is,
  ),
  record {
    writes_back = tt;
    value = c.value_mut.ensures.value ∙ rw (← c.node.view_is)
        (sym (trie_lookup-ended _ c.args.key.now _ _ (storage_capacity c.node.inside.storage) _ c.in-Some.ensures
        c.in_default-first.ensures.value));
  },
)

follows : (g : Over) (c : In-Some-seek_child_mut g) → Follows (g.P.Partial.bytes (stored_prefix c.node.inside.storage))
    c.args.key.now c.in-Some.rest.now (stored_value c.node.inside.storage) (storage_capacity c.node.inside.storage)
    c.in-Some-first.field-0.now
    c.in-Some-seek_child_mut.child.now (child_entries c.node.inside.storage)
follows g c = record {
  canonical = rw (← c.node.view_is) at c.requires.canonical;
  left = c.in-Some.ensures;
  first = c.in-Some-first.ensures.value;
  there = c.in-Some-seek_child_mut.ensures.value;
}

pub lend-requires : goal.lend-requires
lend-requires g c =
    let on = follows g (goal.at.lend-requires g c).In-Some-seek_child_mut in
    record {
      ready = c.requires.ready c.in-Some-seek_child_mut.child.now (canonical-found _ 0 _ _ on.canonical.2 on.there)
          (omega (arith, ap node_count c.node.view_is, count-found _ 0 _ _ on.canonical.2 on.there));
    }

pub returns-in-Some-seek_child_mut : goal.returns-in-Some-seek_child_mut
returns-in-Some-seek_child_mut g c =
    let on = follows g (goal.at.returns-in-Some-seek_child_mut g c).In-Some-seek_child_mut in (
      (
        refl,
        λ w. let left = rw c.in-Some-seek_child_mut.is at c.seek_child_mut.follows.holds (c.lend.follows.lender w) in (
          on_some_weaker c.lend.result (λ q. rw (← c.node.view_is, left.2, left.3)
              (put-below on w _ (c.lend.follows.lender w) _
              (q ∙ c.requires.put c.in-Some-seek_child_mut.child.now _ w) left.0 left.1)) (c.lend.follows.holds w).0,
          if_none_weaker c.lend.result (λ q. child-put_back _ _ _ _ _ _ (c.lend.follows.lender w) _ _ on.there q left.0
              left.1 left.2 (ap g.P.Partial.bytes left.3) ∙ c.node.view_is) (c.lend.follows.holds w).1,
        ),
        let left = rw c.in-Some-seek_child_mut.is at c.seek_child_mut.follows.holds c.lend.follows.lender-at-none in
            child-put_back _ _ _ _ _ _ c.lend.follows.lender-at-none _ _ on.there c.lend.follows.holds-at-none left.0
            left.1 left.2 (ap g.P.Partial.bytes left.3) ∙ c.node.view_is,
      ),
      record {
        writes_back = tt;
        value = rw (← c.node.view_is) (c.lend.ensures.value ∙ c.requires.found c.in-Some-seek_child_mut.child.now _
            ∙ sym (trie_lookup-child on));
      },
    )

pub returns-in-None : goal.returns-in-None
returns-in-None g c =
    let left = c.seek_child_mut.follows.holds-at-none in (
      (refl, λ w. (tt, refl), rw (left.0, left.1, left.2, left.3) c.node.view_is),
      record {
        writes_back = tt;
        value = rw (← c.node.view_is) (sym (trie_lookup-no_child _ c.args.key.now _ _ _
            (storage_capacity c.node.inside.storage)
            (child_entries c.node.inside.storage) c.in-Some.ensures c.in-Some-first.ensures.value
            c.in-None.ensures.value));
      },
    )
