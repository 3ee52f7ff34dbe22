use Rattle.std.proofs.Common.{ℕ, arith, ap, ◌∙◌, sym, refl}
use Rattle.rart_trie.specs.storages.Stored.{child_entries, storage_capacity, stored_prefix, stored_value}
use Rattle.rart_trie.specs.tries.TrieCode.{node_count}
use Rattle.rart_trie.proofs.storages.ChildLemmas.{canonical-found, count-found}
use Rattle.rart_trie.proofs.edits.InsertLemmas.{put-below, put-beside, child-put_back, record-no_child, rest-within}
use Rattle.std.proofs.lemmas.Result.{on_ok_weaker, on_err_weaker}
use Rattle.rart_trie.proofs.edits.Outcomes.{if_ok_weaker, if_err_weaker}
use Rattle.rart_trie.proofs.edits.InsertStopLemmas.{entries-below}
use Rattle.rart_trie.proofs.edits.PutAllocationLemmas.{put_allocation-full}
use Rattle.rart_trie.proofs.tries.RestLemmas.{Follows, trie_lookup-child, trie_lookup-no_child, trie_put-ended}
use Rattle.rart_trie.proofs.node.DefaultNode.+put_below.Given.{Over}
use Rattle.rart_trie.proofs.node.DefaultNode.+put_below.Goals.{In-Some-seek_child_mut}
use Rattle.rart_trie.proofs.node.DefaultNode.+put_below.Goals as goal

-- the key ends here
pub returns-in_default-first-clause-ok : goal.returns-in_default-first-clause-ok
returns-in_default-first-clause-ok g t c = rw (
  ← c.self.view_is,
  c.replace_value.ensures.stored.0,
  c.replace_value.ensures.stored.1,
  c.replace_value.ensures.stored.2,
  c.replace_value.ensures.stored.3,
)
    (sym (trie_put-ended _ c.args.key.now _ c.args.value _ _ _ c.in-Some.ensures c.in_default-first.ensures.value))

-- it continues in a child
follows : (g : Over) (t : ℕ) (c : In-Some-seek_child_mut g t) → Follows
    (g.P.Partial.bytes (stored_prefix c.self.inside.storage))
    c.args.key.now c.in-Some.rest.now (stored_value c.self.inside.storage) (storage_capacity c.self.inside.storage)
    c.in-Some-first.field-0.now
    c.in-Some-seek_child_mut.child.now (child_entries c.self.inside.storage)
follows g t c = record {
  canonical = rw (← c.self.view_is) at c.requires.canonical;
  left = c.in-Some.ensures;
  first = c.in-Some-first.ensures.value;
  there = c.in-Some-seek_child_mut.ensures.value;
}

pub put_below-requires : goal.put_below-requires
put_below-requires g t c κs within =
    let on = follows g t (goal.at.put_below-requires g t c).In-Some-seek_child_mut in
    let child = canonical-found _ 0 _ _ on.canonical.2 on.there in
    let fits = rest-within _ _ c.args.key.now _ on.left c.requires.within in (
      omega (arith, c.decreases, ap node_count c.self.view_is, count-found _ 0 _ _ on.canonical.2 on.there),
      (within.0, (within.1, (child, (fits, c.requires.empty)))),
    )

pub returns-in-Some-seek_child_mut : goal.returns-in-Some-seek_child_mut
returns-in-Some-seek_child_mut g t c =
    let on = follows g t (goal.at.returns-in-Some-seek_child_mut g t c).In-Some-seek_child_mut in
    let left = rw c.in-Some-seek_child_mut.is at c.seek_child_mut.follows.holds c.put_below.new.self in
    record {
      ok = on_ok_weaker c.put_below.result (λ e. rw (← c.self.view_is, left.2, left.3)
          (put-below on c.args.value _ _ _ e left.0 left.1)) c.put_below.ensures.ok;
      answer = if_ok_weaker c.put_below.result (λ x e. rw (← c.self.view_is) (e ∙ sym (trie_lookup-child on)))
          c.put_below.ensures.answer;
      unchanged = on_err_weaker c.put_below.result (λ e. rw (← c.self.view_is)
          (child-put_back _ _ _ _ _ _ _ _ _ on.there e left.0 left.1 left.2 (ap g.P.Partial.bytes left.3)))
          c.put_below.ensures.unchanged;
      absent = on_ok_weaker c.put_below.result (λ fresh only. rw (← c.self.view_is) (trie_lookup-child on ∙ fresh only))
          c.put_below.ensures.absent;
      returned = c.put_below.ensures.returned;
      refused = if_err_weaker c.put_below.result (λ stop why. rw (← c.self.view_is)
          (entries-below on c.args.only_new stop why)) c.put_below.ensures.refused;
    }

-- there is no child
pub add_leaf-requires-clause-within : goal.add_leaf-requires-clause-within
add_leaf-requires-clause-within g t c = rest-within _ _ c.args.key.now _ c.in-Some.ensures c.requires.within

pub returns-in-Ok-reserve_slot-clause-ok : goal.returns-in-Ok-reserve_slot-clause-ok
returns-in-Ok-reserve_slot-clause-ok g t c =
    let left = c.seek_child_mut.follows.holds-at-none in
    rw (
      ← c.self.view_is,
      c.add_leaf.ensures.value_kept,
      c.in-Ok-reserve_slot.ensures.value_kept,
      left.2,
      c.add_leaf.ensures.prefix_kept,
      c.in-Ok-reserve_slot.ensures.prefix_kept,
      left.3,
    )
    (put-beside _ c.args.key.now _ c.args.value _ _ _ _ (child_entries c.self.inside.storage) _
    (rw (← c.self.view_is) at c.requires.canonical) c.in-Some.ensures c.in-Some-first.ensures.value
    c.in_default-seek_child_mut.ensures.value
    (c.add_leaf.ensures.capacity ∙ rw (left.0, left.1) at c.in-Ok-reserve_slot.ensures.capacity)
    (rw (c.add_leaf.ensures.entries, c.in-Ok-reserve_slot.ensures.entries, left.1) refl))

pub returns-in-Ok-reserve_slot-clause-answer : goal.returns-in-Ok-reserve_slot-clause-answer
returns-in-Ok-reserve_slot-clause-answer g t c
    = rw (← c.self.view_is) (c.requires.empty
    ∙ sym (trie_lookup-no_child _ c.args.key.now _ _ _ (storage_capacity c.self.inside.storage)
    (child_entries c.self.inside.storage)
    c.in-Some.ensures c.in-Some-first.ensures.value c.in_default-seek_child_mut.ensures.value))

pub returns-in-Ok-reserve_slot-clause-absent : goal.returns-in-Ok-reserve_slot-clause-absent
returns-in-Ok-reserve_slot-clause-absent g t c only
    = rw (← c.self.view_is) (trie_lookup-no_child _ c.args.key.now _ _ _ (storage_capacity c.self.inside.storage)
    (child_entries c.self.inside.storage)
    c.in-Some.ensures c.in-Some-first.ensures.value c.in_default-seek_child_mut.ensures.value)

pub returns-in-Err-reserve_slot-clause-refused : goal.returns-in-Err-reserve_slot-clause-refused
returns-in-Err-reserve_slot-clause-refused g t c =
    let left = c.seek_child_mut.follows.holds-at-none in
    rw (← c.self.view_is) (
      put_allocation-full _ c.args.key.now _ (stored_value c.self.inside.storage) (storage_capacity
          c.self.inside.storage) _ _
          (child_entries c.self.inside.storage) _ c.in-Some.ensures c.in-Some-first.ensures.value
          c.in_default-seek_child_mut.ensures.value
          left.0 left.1 c.in-Err-reserve_slot.ensures.allocates,
      record-no_child _ c.args.key.now _ _ (storage_capacity c.self.inside.storage) _
          (child_entries c.self.inside.storage)
          c.in-Some.ensures c.in-Some-first.ensures.value c.in_default-seek_child_mut.ensures.value,
    )
