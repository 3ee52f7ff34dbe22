use Rattle.std.proofs.Common.{ℕ, arith, ap, ◌∙◌, sym, refl, Some, None, option_and_then}
use Rattle.rart_keys.specs.SortedMap.{longest_key}
use Rattle.rart_trie.specs.edits.Deletion.{merged_if_needed, without_child}
use Rattle.rart_trie.specs.storages.Stored.{child_entries, storage_capacity, stored_prefix, stored_value}
use Rattle.rart_trie.specs.tries.Trie.{pairs_of, value_of}
use Rattle.rart_trie.specs.tries.TrieCode.{node_count}
use Rattle.rart_trie.proofs.storages.ChildLemmas.{canonical-found, count-found}
use Rattle.rart_trie.proofs.edits.EditRunLemmas.{remove-absent}
use Rattle.rart_trie.proofs.edits.InsertLemmas.{fewer-within, child-put_back, replaced-same}
use Rattle.rart_trie.proofs.edits.JoinLemmas.{some-there}
use Rattle.rart_trie.proofs.edits.JoinedLengths.{joins-canonical, entry-short}
use Rattle.rart_trie.proofs.edits.LeafLemmas.{leaf-removed, leaf-edges, leaf-value, leaf-some}
use Rattle.std.proofs.lemmas.Result.{on_ok_weaker, on_err_weaker}
use Rattle.rart_trie.proofs.edits.Outcomes.{on_err_from}
use Rattle.rart_trie.proofs.edits.UpdateSteps.{child-there}
use Rattle.rart_trie.proofs.removals.RemoveAllocationSteps.{remove_allocation-below, remove_allocation-leaf}
use Rattle.rart_trie.proofs.removals.RemoveSteps.{value-removed, removed-below, removed-leaf, same-node}
use Rattle.rart_trie.proofs.tries.RestLemmas.{Follows, trie_lookup-left, trie_lookup-child, trie_lookup-no_child}
use Rattle.rart_trie.proofs.node.DefaultNode.+take_below.Given.{Over}
use Rattle.rart_trie.proofs.node.DefaultNode.+take_below.Goals.{In-Some-seek_child_mut}
use Rattle.rart_trie.proofs.node.DefaultNode.+take_below.Goals as goal

-- the key leaves the prefix
pub returns-in_default-clause-ok : goal.returns-in_default-clause-ok
returns-in_default-clause-ok g t c =
    let none = trie_lookup-left _ c.args.key.now _ (storage_capacity c.self.inside.storage) _ c.in_default.ensures in
    sym (remove-absent c.args.key.now c.args.self.now c.requires.canonical (rw (← c.self.view_is) none))

-- it ends here
pub merge_with_only_child-requires-clause-within : goal.merge_with_only_child-requires-clause-within
merge_with_only_child-requires-clause-within g t c
    = rw (c.take_value.ensures.emptied.1, c.take_value.ensures.emptied.3)
    (joins-canonical _ _ _ (storage_capacity c.self.inside.storage) _ (rw
    (← c.self.view_is) at c.requires.canonical)
    (rw (← c.self.view_is) at c.requires.within))

pub returns-in_default-first-clause-ok : goal.returns-in_default-first-clause-ok
returns-in_default-first-clause-ok g t c
    = ap Some (c.merge_with_only_child.ensures ∙ ap merged_if_needed
    (same-node _ None _ _ (child_entries c.self.inside.storage) _ c.take_value.ensures.emptied.0
    c.take_value.ensures.emptied.1 c.take_value.ensures.emptied.2
    (ap g.P.Partial.bytes c.take_value.ensures.emptied.3)))
    ∙ rw (← c.self.view_is) (value-removed _ c.args.key.now _ _ _ (child_entries c.self.inside.storage)
    (rw (← c.self.view_is) at c.requires.canonical) c.in-Some.ensures c.in_default-first.ensures.value
    (rw (← c.self.view_is) at c.requires.not_leaf))

-- there is no child
pub returns-in-None-clause-ok : goal.returns-in-None-clause-ok
returns-in-None-clause-ok g t c =
    let left = c.seek_child_mut.follows.holds-at-none in
    let none = trie_lookup-no_child _ c.args.key.now _ _ _ (storage_capacity c.self.inside.storage)
    (child_entries c.self.inside.storage) c.in-Some.ensures c.in-Some-first.ensures.value c.in-None.ensures.value in
    ap Some (same-node _ _ _ _ (child_entries c.self.inside.storage) _ left.0 left.1 left.2
    (ap g.P.Partial.bytes left.3) ∙ c.self.view_is)
    ∙ sym (remove-absent c.args.key.now c.args.self.now c.requires.canonical (rw (← c.self.view_is) none))

pub returns-in-None-clause-answer : goal.returns-in-None-clause-answer
returns-in-None-clause-answer g t c = rw (← c.self.view_is) (c.requires.empty
    ∙ sym (trie_lookup-no_child _ c.args.key.now _ _ _ (storage_capacity c.self.inside.storage)
    (child_entries c.self.inside.storage)
    c.in-Some.ensures c.in-Some-first.ensures.value c.in-None.ensures.value))

-- it continues in a child
follows : (g : Over) (t : ℕ) (c : In-Some-seek_child_mut g t) → Follows
    (g.P.Partial.bytes (stored_prefix c.self.inside.storage))
    c.args.key.now c.in-Some.rest.now (stored_value c.self.inside.storage) (storage_capacity c.self.inside.storage)
    c.in-Some-first.field-0.now
    c.in-Some-seek_child_mut.child.now (child_entries c.self.inside.storage)
follows g t c = record {
  canonical = rw (← c.self.view_is) at c.requires.canonical;
  left = c.in-Some.ensures;
  first = c.in-Some-first.ensures.value;
  there = c.in-Some-seek_child_mut.ensures.value;
}

-- which stays
pub take_below-requires : goal.take_below-requires
take_below-requires g t c κs within =
    let on = follows g t (goal.at.take_below-requires g t c).In-Some-seek_child_mut in
    let child = canonical-found _ 0 _ _ on.canonical.2 on.there in
    let fits = fewer-within _ (longest_key (pairs_of c.args.self.now))
    (longest_key (pairs_of c.in-Some-seek_child_mut.child.now)) (rw (← c.self.view_is)
    (entry-short (g.P.Partial.bytes (stored_prefix c.self.inside.storage)) (stored_value c.self.inside.storage)
    (storage_capacity c.self.inside.storage) _
    c.in-Some-seek_child_mut.child.now (child_entries c.self.inside.storage) on.there)) c.requires.within in
    let stays = sym c.is_leaf_at.ensures ∙ c.if-not-is_leaf_at.true in (
      omega (arith, c.decreases, ap node_count c.self.view_is, count-found _ 0 _ _ on.canonical.2 on.there),
      (within.0, (within.1, (child, (fits, (stays, c.requires.empty))))),
    )

pub returns-then-not-is_leaf_at : goal.returns-then-not-is_leaf_at
returns-then-not-is_leaf_at g t c =
    let on = follows g t (goal.at.returns-then-not-is_leaf_at g t c).In-Some-seek_child_mut in
    let left = rw c.in-Some-seek_child_mut.is at c.seek_child_mut.follows.holds c.take_below.new.self in
    record {
      ok = on_ok_weaker c.take_below.result (λ r. rw (← c.self.view_is, left.2, left.3)
          (removed-below on _ _ _ r left.0 left.1))
          c.take_below.ensures.ok;
      answer = on_ok_weaker c.take_below.result (λ e. rw (← c.self.view_is) (e ∙ sym (trie_lookup-child on)))
          c.take_below.ensures.answer;
      unchanged = on_err_weaker c.take_below.result (λ e. rw (← c.self.view_is)
          (child-put_back _ _ _ _ _ _ _ _ _ on.there e left.0 left.1 left.2 (ap g.P.Partial.bytes left.3)))
          c.take_below.ensures.unchanged;
      nothing = c.take_below.ensures.nothing;
      memory = c.take_below.ensures.memory;
      allocates = on_err_weaker c.take_below.result (λ a. rw (← c.self.view_is) (
        remove_allocation-below on (sym c.is_leaf_at.ensures ∙ c.if-not-is_leaf_at.true) a.0,
        λ z. a.1 (sym (trie_lookup-child on) ∙ z),
      )) c.take_below.ensures.allocates;
    }

-- which is a leaf that is removed
pub take_leaf-requires : goal.take_leaf-requires
take_leaf-requires g t c =
    let on = follows g t (goal.at.take_leaf-requires g t c).In-Some-seek_child_mut in
    let child = c.in-Some-seek_child_mut.child.now in
    let left = rw c.in-Some-seek_child_mut.is at c.seek_child_mut.follows.holds child in
    let found = child-there _ child child _ _ on.there left.1 in
    record {
      within = rw (left.1 ∙ replaced-same _ child (child_entries c.self.inside.storage) on.there, left.3)
          (joins-canonical _ _ _
          (storage_capacity c.self.inside.storage) _ on.canonical (rw (← c.self.view_is) at c.requires.within));
      stored = λ none. some-there child _ found none;
      leaf = rw found (leaf-edges _ child (sym c.is_leaf_at.ensures ∙ c.if-not-is_leaf_at.false));
      empty = c.requires.empty;
    }

pub returns : goal.returns
returns g t c =
    let on = follows g t (goal.at.returns g t c).In-Some-seek_child_mut in
    let child = c.in-Some-seek_child_mut.child.now in
    let left = rw c.in-Some-seek_child_mut.is at c.seek_child_mut.follows.holds child in
    let same = child-put_back (g.P.Partial.bytes (stored_prefix c.self.inside.storage))
    (stored_value c.self.inside.storage) _ _ _
    child child _ _
    on.there refl left.0 left.1 left.2 (ap g.P.Partial.bytes left.3) in
    let goes = sym c.is_leaf_at.ensures ∙ c.if-not-is_leaf_at.false in
    let found = child-there _ child child (child_entries c.self.inside.storage) _ on.there left.1 in
    let value = sym (leaf-value _ child goes) ∙ sym (trie_lookup-child on) in
    record {
      ok = on_ok_weaker c.take_leaf.result (λ e. ap Some (e ∙ ap (without_child _) same)
          ∙ rw (← c.self.view_is) (removed-leaf on (leaf-removed _ child goes))) c.take_leaf.ensures.rest;
      answer = on_ok_weaker c.take_leaf.result (λ e. e ∙ ap (option_and_then value_of) found
          ∙ rw (← c.self.view_is) value) c.take_leaf.ensures.taken;
      unchanged = on_err_weaker c.take_leaf.result (λ e. e ∙ same ∙ c.self.view_is) c.take_leaf.ensures.unchanged;
      nothing = c.take_leaf.ensures.nothing;
      memory = c.take_leaf.ensures.memory;
      allocates = on_err_from c.take_leaf.result c.take_leaf.ensures.allocates (λ a. rw (← c.self.view_is) (
        remove_allocation-leaf on _ _ goes left.0 (left.1 ∙ replaced-same _ child
            (child_entries c.self.inside.storage) on.there) a.1
            a.2,
        λ z. leaf-some _ child (canonical-found _ 0 _ _ on.canonical.2 on.there) goes (value ∙ z),
      ));
    }
