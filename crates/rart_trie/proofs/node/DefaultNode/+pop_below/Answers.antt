use Rattle.std.proofs.Common.{◌≡◌, ◌≢◌, ◌+◌, ◌++◌, ℕ, arith, ap, ◌∙◌, sym, refl, length, None}
use Rattle.std.specs.Option.{option_and_then}
use Rattle.std.proofs.lemmas.Result.{on_ok_weaker, on_err_weaker}
use Rattle.rart_keys.specs.KeyBytes.{IsWithin}
use Rattle.rart_keys.specs.SortedMap.{longest_key}
use Rattle.rart_trie.specs.edits.Deletion.{merged_if_needed, without_child}
use Rattle.rart_trie.specs.storages.Stored.{child_entries, storage_capacity, stored_prefix, stored_value}
use Rattle.rart_trie.specs.tries.Trie.{pairs_of, edges_of, children_in, no_children, prefix_of, value_of}
use Rattle.rart_trie.specs.tries.TrieCode.{node_count}
use Rattle.rart_trie.proofs.edits.InsertLemmas.{fewer-within, child-put_back, replaced-same}
use Rattle.rart_trie.proofs.edits.JoinLemmas.{some-there}
use Rattle.rart_trie.proofs.edits.JoinedLengths.{joins-canonical}
use Rattle.rart_trie.proofs.edits.Outcomes.{on_err_from, on_ok_both}
use Rattle.rart_trie.proofs.edits.UpdateSteps.{child-there}
use Rattle.rart_trie.proofs.removals.PopLemmas.{EndsIn, below-within, end-there, entries-none, entries-some, pop-below}
use Rattle.rart_trie.proofs.removals.PopLemmas.{pop-here, pop-leaf, pop_allocates-below, pop_allocates-leaf, pops-as}
use Rattle.rart_trie.proofs.removals.PopLemmas.{prefix-within, same-end}
use Rattle.rart_trie.proofs.removals.RemoveSteps.{same-node}
use Rattle.rart_trie.proofs.storages.ChildLemmas.{canonical-found, count-found}
use Rattle.rart_trie.proofs.node.DefaultNode.+pop_below.Given.{Over}
use Rattle.rart_trie.proofs.node.DefaultNode.+pop_below.Goals.{In-Some-seek_child_mut}
use Rattle.rart_trie.proofs.node.DefaultNode.+pop_below.Goals as goal

pub extend-requires : goal.extend-requires
extend-requires g t c = prefix-within _ _ _ _ (storage_capacity c.self.inside.storage) _
    (rw (← c.self.view_is) at c.requires.canonical) (rw (← c.self.view_is) at c.requires.within)

-- the node holds the pair
pub merge_with_only_child-requires-clause-within : goal.merge_with_only_child-requires-clause-within
merge_with_only_child-requires-clause-within g t c = rw (c.take_value.ensures.emptied.1, c.take_value.ensures.emptied.3)
    (joins-canonical _ _ _ (storage_capacity c.self.inside.storage) _ (rw (← c.self.view_is) at c.requires.canonical)
    (fewer-within _ (length (g.P.Partial.bytes c.args.path.now) + longest_key (pairs_of c.args.self.now)) _
    (rw (← c.self.view_is) (omega arith)) c.requires.within))

pub returns-in_default-clause-ok : goal.returns-in_default-clause-ok
returns-in_default-clause-ok g t c =
    pops-as c.args.end _ _ _ _ _ _ _ _ c.self.view_is (c.fill.ensures ∙ c.take_value.ensures.taken)
    (c.merge_with_only_child.ensures ∙ ap merged_if_needed (same-node _ None _ _ (child_entries c.self.inside.storage) _
    c.take_value.ensures.emptied.0 c.take_value.ensures.emptied.1 c.take_value.ensures.emptied.2
    (ap g.P.Partial.bytes c.take_value.ensures.emptied.3)))
    (pop-here c.args.end _ _ (g.P.Partial.bytes (stored_prefix c.self.inside.storage))
    (stored_value c.self.inside.storage) _
    (child_entries c.self.inside.storage) (rw (← c.self.view_is) at c.requires.canonical)
    (rw (← c.self.view_is) at c.requires.inner) (rw (← c.self.view_is) at (sym c.in_default.ensures))
    c.extend.ensures)

-- the child at the end
child-within : (g : Over) (t : ℕ) (c : In-Some-seek_child_mut g t) → IsWithin g.P.Partial.MAXIMUM_SIZE
    (length (g.P.Partial.bytes c.extend.new.path) + longest_key (pairs_of c.in-Some-seek_child_mut.child.now))
child-within g t c = below-within _ _ _ _ _ _ (storage_capacity c.self.inside.storage) _
    (child_entries c.self.inside.storage)
    (rw (← c.self.view_is) at c.requires.canonical) c.in-Some-seek_child_mut.ensures.value c.extend.ensures
    (rw (← c.self.view_is) at c.requires.within)

child-ends : (g : Over) (t : ℕ) (c : In-Some-seek_child_mut g t) → EndsIn c.args.end
    (g.P.Partial.bytes (stored_prefix c.self.inside.storage)) (stored_value c.self.inside.storage) (storage_capacity
    c.self.inside.storage) c.in-Some.byte
    c.in-Some-seek_child_mut.child.now (child_entries c.self.inside.storage)
child-ends g t c = same-end c.args.end _ _ _ _ _ _ (child_entries c.self.inside.storage)
    (rw (← c.self.view_is) at c.requires.canonical) (rw (← c.self.view_is) at c.in-Some.ensures)
    c.in-Some-seek_child_mut.ensures.value

pub unreachable-requires : goal.unreachable-requires
unreachable-requires g t c =
    end-there c.args.end (g.P.Partial.bytes (stored_prefix c.self.inside.storage)) (stored_value c.self.inside.storage)
    (storage_capacity c.self.inside.storage) c.in-Some.byte _ (child_entries c.self.inside.storage)
    (rw (← c.self.view_is) at c.requires.canonical) (rw (← c.self.view_is) at c.in-Some.ensures)
    c.in-None.ensures.value

-- it continues in a child that remains
pub pop_below-requires : goal.pop_below-requires
pop_below-requires g t c κs within =
    let canonical = rw (← c.self.view_is) at c.requires.canonical in
    let there = c.in-Some-seek_child_mut.ensures.value in
    let fewer = count-found _ 0 _ (child_entries c.self.inside.storage) canonical.2 there in
    let child = canonical-found _ 0 _ (child_entries c.self.inside.storage) canonical.2 there in
    let fits = child-within g t (goal.at.pop_below-requires g t c).In-Some-seek_child_mut in
    let inner : children_in c.in-Some-seek_child_mut.child.now ≢ no_children
    = rw (← c.child.view_is) (entries-some _ _ c.num_children.ensures c.if-num_children-gt0.true) in (
      omega (arith, c.decreases, ap node_count c.self.view_is, fewer),
      (within.0, (within.1, (child, (fits, (inner, c.requires.empty))))),
    )

pub returns-then-num_children-gt0 : goal.returns-then-num_children-gt0
returns-then-num_children-gt0 g t c =
    let end = child-ends g t (goal.at.returns-then-num_children-gt0 g t c).In-Some-seek_child_mut in
    let left = rw c.in-Some-seek_child_mut.is at c.seek_child_mut.follows.holds c.pop_below.new.self in
    record {
      ok = on_ok_weaker c.pop_below.result (λ m. rw (← c.self.view_is, left.2, left.3)
          (pop-below end _ _ _ _ _ _ _ c.extend.ensures m left.0 left.1)) c.pop_below.ensures.ok;
      unchanged = on_err_weaker c.pop_below.result (λ e. rw (← c.self.view_is)
          (child-put_back _ _ _ _ _ _ _ _ _ end.there e left.0 left.1 left.2 (ap g.P.Partial.bytes left.3)))
          c.pop_below.ensures.unchanged;
      nothing = c.pop_below.ensures.nothing;
      memory = c.pop_below.ensures.memory;
      allocates = on_err_weaker c.pop_below.result (λ a. rw (← c.self.view_is) (pop_allocates-below end
          (rw (← c.child.view_is) (entries-some _ _ c.num_children.ensures c.if-num_children-gt0.true)) a))
          c.pop_below.ensures.allocates;
    }

-- the child is a leaf
pub extend-requires-in-Some-seek_child_mut : goal.extend-requires-in-Some-seek_child_mut
extend-requires-in-Some-seek_child_mut g t c =
    let canonical = rw (← c.self.view_is) at c.requires.canonical in
    let low = child-within g t (goal.at.extend-requires-in-Some-seek_child_mut g t c).In-Some-seek_child_mut in
    let child = canonical-found _ 0 c.in-Some-seek_child_mut.child.now (child_entries c.self.inside.storage) canonical.2
    c.in-Some-seek_child_mut.ensures.value in
    prefix-within _ _ _ _ (storage_capacity c.child.inside.storage) _ (rw (← c.child.view_is) at child)
    (rw (← c.child.view_is) at low)

pub take_leaf-requires : goal.take_leaf-requires
take_leaf-requires g t c =
    let child = c.in-Some-seek_child_mut.child.now in
    let there = c.in-Some-seek_child_mut.ensures.value in
    let left = rw c.in-Some-seek_child_mut.is at c.seek_child_mut.follows.holds child in
    let found = child-there _ child child (child_entries c.self.inside.storage) _ there left.1 in
    let fits = fewer-within _ (length (g.P.Partial.bytes c.args.path.now) + longest_key (pairs_of c.args.self.now))
    (longest_key (pairs_of c.args.self.now)) (omega arith) c.requires.within in
    let none : children_in child ≡ no_children
    = rw (← c.child.view_is) (entries-none _ _ c.num_children.ensures c.if-num_children-gt0.false) in
    record {
      within = rw (left.1 ∙ replaced-same _ child (child_entries c.self.inside.storage) there, left.3)
          (joins-canonical _ _ _ (storage_capacity c.self.inside.storage) _ (rw
          (← c.self.view_is) at c.requires.canonical)
          (rw (← c.self.view_is) at fits));
      stored = λ lost. some-there child _ found lost;
      leaf = rw found (ap edges_of none);
      empty = c.requires.empty;
    }

pub returns : goal.returns
returns g t c =
    let end = child-ends g t (goal.at.returns g t c).In-Some-seek_child_mut in
    let child = c.in-Some-seek_child_mut.child.now in
    let left = rw c.in-Some-seek_child_mut.is at c.seek_child_mut.follows.holds child in
    let same = child-put_back (g.P.Partial.bytes (stored_prefix c.self.inside.storage))
    (stored_value c.self.inside.storage) _ _ _
    child child _ _
    end.there refl left.0 left.1 left.2 (ap g.P.Partial.bytes left.3) in
    let none : children_in child ≡ no_children
    = rw (← c.child.view_is) (entries-none _ _ c.num_children.ensures c.if-num_children-gt0.false) in
    record {
      ok = on_ok_both c.take_leaf.result (λ taken rest. pops-as c.args.end _ _ _ _ _ _ _ _ c.self.view_is
          (taken ∙ ap (option_and_then value_of) (child-there _ child child _ _ end.there left.1))
          (rest ∙ ap (without_child _) same) (pop-leaf end (g.P.Partial.bytes c.args.path.now) _ none
          (c.extend-in-Some-seek_child_mut.ensures
          ∙ ap (λ z. z ++ g.P.Partial.bytes (stored_prefix c.child.inside.storage)) c.extend.ensures
          ∙ ap (λ t. (g.P.Partial.bytes c.args.path.now ++ g.P.Partial.bytes (stored_prefix c.self.inside.storage))
          ++ prefix_of t)
          c.child.view_is))) c.take_leaf.ensures.taken c.take_leaf.ensures.rest;
      unchanged = on_err_weaker c.take_leaf.result (λ e. e ∙ same ∙ c.self.view_is) c.take_leaf.ensures.unchanged;
      nothing = c.take_leaf.ensures.nothing;
      memory = c.take_leaf.ensures.memory;
      allocates = on_err_from c.take_leaf.result c.take_leaf.ensures.allocates (λ a. rw (← c.self.view_is)
          (pop_allocates-leaf end _ _
          none left.0 (left.1 ∙ replaced-same _ child (child_entries c.self.inside.storage) end.there) a.1 a.2));
    }
