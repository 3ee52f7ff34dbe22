use Rattle.std.proofs.Common.{arith, ap, ◌∙◌, sym, ◌≡◌, ◌≢◌, ℕ, true, Some, None, is_some}
use Rattle.rart_keys.specs.SortedMap.{longest_key}
use Rattle.rart_trie.specs.declared.slot.SlotUpdate.TheVariants.{Remove}
use Rattle.rart_trie.specs.edits.Deletion.{is_leaf_at}
use Rattle.rart_trie.specs.storages.Stored.{child_entries, storage_capacity, stored_prefix, stored_value}
use Rattle.rart_trie.specs.tries.Trie.{pairs_of, trie_lookup}
use Rattle.rart_trie.specs.tries.TrieCode.{as_children, node_count}
use Rattle.rart_trie.specs.edits.Slots.{slot_of}
use Rattle.rart_trie.specs.edits.TreeUpdates.{node_holding}
use Rattle.rart_trie.proofs.storages.ChildLemmas.{canonical-found, count-found}
use Rattle.rart_trie.proofs.edits.InsertLemmas.{fewer-within, rest-within}
use Rattle.rart_trie.proofs.edits.JoinLemmas.{some-there}
use Rattle.rart_trie.proofs.edits.JoinedLengths.{joins-canonical, entry-short}
use Rattle.rart_trie.proofs.edits.LeafLemmas.{leaf-value, leaf-some}
use Rattle.rart_trie.proofs.removals.RemoveSteps.{same-node}
use Rattle.rart_trie.proofs.tries.RestLemmas.{Follows, trie_lookup-left, trie_lookup-ended, trie_lookup-child}
use Rattle.rart_trie.proofs.tries.RestLemmas.{trie_lookup-no_child}
use Rattle.rart_trie.proofs.edits.UpdateSteps.{none-there, some-stays, ends-same, ends-here, leaf-done, leaf-lost}
use Rattle.rart_trie.proofs.edits.UpdateSteps.{joins-holding, child-there, holding-edges, holding-some, child-absent}
use Rattle.rart_trie.proofs.edits.UpdateSteps.{ends-child, ends-child_ok, ends-lost}
use Rattle.rart_trie.proofs.node.DefaultNode.+update_below.Given.{Over}
use Rattle.rart_trie.proofs.node.DefaultNode.+update_below.Goals.{Else-not-is_leaf_at, In_default, In_default-first}
use Rattle.rart_trie.proofs.node.DefaultNode.+update_below.Goals.{In-None, In-None-outcome, In-Some-seek_child_mut}
use Rattle.rart_trie.proofs.node.DefaultNode.+update_below.Goals as goal

-- the key leaves the prefix
key-leaves : (g : Over) (t : ℕ) (c : In_default g t) → trie_lookup c.args.key.now c.args.self.now ≡ None
key-leaves g t c = rw (← c.self.view_is)
    (trie_lookup-left _ c.args.key.now (stored_value c.self.inside.storage) (storage_capacity c.self.inside.storage)
    (as_children (child_entries c.self.inside.storage)) c.in_default.ensures)

pub show_vacant-answer-requires-clause-callable : goal.show_vacant-answer-requires-clause-callable
show_vacant-answer-requires-clause-callable g t c =
    let none = key-leaves g t (goal.at.show_vacant-answer-requires-clause-callable g t c).In_default in
    λ p h. c.requires.callable p (h ∙ ap slot_of (sym none))

pub show_vacant-answer-requires-clause-occupancy : goal.show_vacant-answer-requires-clause-occupancy
show_vacant-answer-requires-clause-occupancy g t c =
    let none = key-leaves g t (goal.at.show_vacant-answer-requires-clause-occupancy g t c).In_default in
    λ r x w h. none-there w _ (c.requires.occupancy r x w (rw none h)) none

pub returns-in_default : goal.returns-in_default
returns-in_default g t c = (
  c.show_vacant-answer.result.0,
  None,
  rw (key-leaves g t (goal.at.returns-in_default g t c).In_default)
      c.show_vacant-answer.ensures,
  c.apply_split.ensures,
)

-- it ends here
key-ends : (g : Over) (t : ℕ) (c : In_default-first g t) → trie_lookup c.args.key.now c.args.self.now
    ≡ (stored_value c.self.inside.storage)
key-ends g t c = rw (← c.self.view_is) (trie_lookup-ended _ c.args.key.now _ (stored_value c.self.inside.storage)
    (storage_capacity c.self.inside.storage) (as_children (child_entries c.self.inside.storage)) c.in-Some.ensures
    c.in_default-first.ensures.value)

pub show-left-requires : goal.show-left-requires
show-left-requires g t c = record {
  callable
      = λ p h. c.requires.callable p (h ∙ ap slot_of (c.take_value.ensures.taken
      ∙ sym (key-ends g t (goal.at.show-left-requires g t c).In_default-first)));
}

pub apply_here-requires-clause-within : goal.apply_here-requires-clause-within
apply_here-requires-clause-within g t c = rw (c.take_value.ensures.emptied.1, c.take_value.ensures.emptied.3)
    (joins-canonical _ _ _ (storage_capacity c.self.inside.storage) _ (rw (← c.self.view_is) at c.requires.canonical)
    (rw (← c.self.view_is) at c.requires.within))

pub returns-in_default-first : goal.returns-in_default-first
returns-in_default-first g t c =
    let here = key-ends g t (goal.at.returns-in_default-first g t c).In_default-first in
    let shown = rw c.take_value.ensures.taken at c.show-left.ensures in
    let stays : is_some c.show-left.result.left ≡ is_some (stored_value c.self.inside.storage)
    = c.requires.occupancy c.show-left.result.answer c.show-left.result.extra c.show-left.result.left (rw here shown)
    ∙ ap is_some here in (
      c.show-left.result.answer,
      c.show-left.result.left,
      rw here shown,
      rw (← c.self.view_is)
          (ends-here c.args.full _ c.args.key.now _ (stored_value c.self.inside.storage) _
          (storage_capacity c.self.inside.storage)
          (child_entries c.self.inside.storage) (rw (← c.self.view_is) at c.requires.canonical) c.in-Some.ensures
          c.in_default-first.ensures.value (rw (← c.self.view_is) at c.requires.not_leaf) c.show-left.result.answer
          c.show-left.result.left c.apply_here.result c.apply_here.new.self stays
          (rw (
            c.take_value.ensures.emptied.0,
            c.take_value.ensures.emptied.1,
            c.take_value.ensures.emptied.3,
          ) at c.apply_here.ensures)),
    )

-- it continues in a child
follows : (g : Over) (t : ℕ) (c : In-Some-seek_child_mut g t) → Follows
    (g.P.Partial.bytes (stored_prefix c.self.inside.storage))
    c.args.key.now c.in-Some.rest.now (stored_value c.self.inside.storage) (storage_capacity c.self.inside.storage)
    c.in-Some-first.field-0.now
    c.in-Some-seek_child_mut.child.now (child_entries c.self.inside.storage)
follows g t c = record {
  canonical = rw (← c.self.view_is) at c.requires.canonical;
  left = c.in-Some.ensures;
  first = c.in-Some-first.ensures.value;
  there = c.in-Some-seek_child_mut.ensures.value;
}

key-continues : (g : Over) (t : ℕ) (c : In-Some-seek_child_mut g t) → trie_lookup c.args.key.now c.args.self.now
    ≡ trie_lookup c.in-Some.rest.now c.in-Some-seek_child_mut.child.now
key-continues g t c = rw (← c.self.view_is) (trie_lookup-child (follows g t c))

-- which stays
pub update_below-requires : goal.update_below-requires
update_below-requires g t c κs within =
    let on = follows g t (goal.at.update_below-requires g t c).In-Some-seek_child_mut in
    let down = key-continues g t (goal.at.update_below-requires g t c).In-Some-seek_child_mut in
    let child = canonical-found _ 0 _ _ on.canonical.2 on.there in
    let fits_key = rest-within _ _ c.args.key.now _ on.left c.requires.key_within in
    let fits = fewer-within _ (longest_key (pairs_of c.args.self.now))
    (longest_key (pairs_of c.in-Some-seek_child_mut.child.now)) (rw (← c.self.view_is)
    (entry-short (g.P.Partial.bytes (stored_prefix c.self.inside.storage)) (stored_value c.self.inside.storage)
    (storage_capacity c.self.inside.storage) _
    c.in-Some-seek_child_mut.child.now (child_entries c.self.inside.storage) on.there)) c.requires.within in
    let inner = sym c.is_leaf_at.ensures ∙ c.if-not-is_leaf_at.true in
    let callable = rw down at c.requires.callable in
    let stays = rw down at c.requires.occupancy in
    let w = within.1.1 in (
      omega (arith, c.decreases, ap node_count c.self.view_is, count-found _ 0 _ _ on.canonical.2 on.there),
      (within.0, (within.1.0, (w.0, (w.1, (child, (fits_key, (fits, (inner, (callable, stays))))))))),
    )

pub returns-then-not-is_leaf_at : goal.returns-then-not-is_leaf_at
returns-then-not-is_leaf_at g t c =
    let on = follows g t (goal.at.returns-then-not-is_leaf_at g t c).In-Some-seek_child_mut in
    let left = rw c.in-Some-seek_child_mut.is at c.seek_child_mut.follows.holds c.update_below.new.self in
    let e = c.update_below.ensures in (
      e.0,
      e.1,
      rw (← c.self.view_is, trie_lookup-child on) e.2,
      rw (← c.self.view_is, left.2, left.3) (ends-child on _ _ _ left.0 left.1 c.args.full e.0 e.1
          c.update_below.result.0
          (sym c.is_leaf_at.ensures ∙ c.if-not-is_leaf_at.true) e.3),
    )

-- which is a leaf, where it ends
at-leaf : (g : Over) (t : ℕ) (c : Else-not-is_leaf_at g t)
    → is_leaf_at c.in-Some.rest.now c.in-Some-seek_child_mut.child.now ≡ true
at-leaf g t c = sym c.is_leaf_at.ensures ∙ c.if-not-is_leaf_at.false

pub update_leaf-requires-clause-callable : goal.update_leaf-requires-clause-callable
update_leaf-requires-clause-callable g t c =
    let at = goal.at.update_leaf-requires-clause-callable g t c in
    let leaf = (key-continues g t at.In-Some-seek_child_mut
    ∙ leaf-value _ c.in-Some-seek_child_mut.child.now (at-leaf g t at.Else-not-is_leaf_at)) in
    λ p h. c.requires.callable p (h ∙ ap slot_of (sym leaf))

pub update_leaf-requires-clause-occupancy : goal.update_leaf-requires-clause-occupancy
update_leaf-requires-clause-occupancy g t c =
    let at = goal.at.update_leaf-requires-clause-occupancy g t c in
    let on = follows g t at.In-Some-seek_child_mut in
    let leaf = (key-continues g t at.In-Some-seek_child_mut
    ∙ leaf-value _ c.in-Some-seek_child_mut.child.now (at-leaf g t at.Else-not-is_leaf_at)) in
    λ r x w h. some-stays w _ (c.requires.occupancy r x w (rw leaf h) ∙ ap is_some leaf)
    (leaf-some _ c.in-Some-seek_child_mut.child.now (canonical-found _ 0 _ _ on.canonical.2 on.there)
    (at-leaf g t at.Else-not-is_leaf_at))

pub returns-in-Some-outcome : goal.returns-in-Some-outcome
returns-in-Some-outcome g t c =
    let at = goal.at.returns-in-Some-outcome g t c in
    let on = follows g t at.In-Some-seek_child_mut in
    let leaf = at-leaf g t at.Else-not-is_leaf_at in
    let left = rw c.in-Some-seek_child_mut.is at c.seek_child_mut.follows.holds c.update_leaf.new.self in
    let e = c.update_leaf.ensures in
    let done = rw c.in-Some-outcome.is at e.3 in (
      e.0,
      e.1,
      rw (← c.self.view_is, trie_lookup-child on, leaf-value _ c.in-Some-seek_child_mut.child.now leaf) e.2,
      rw (← c.self.view_is, left.2, left.3) (ends-child_ok on _ _ _ left.0 left.1 c.args.full e.0 e.1
          c.in-Some-outcome.outcome
          (leaf-done c.args.full _ c.in-Some-seek_child_mut.child.now c.update_leaf.new.self e.0 e.1
          c.in-Some-outcome.outcome leaf done)),
    )

-- and is removed
leaf-goes : (g : Over) (t : ℕ) (c : In-None-outcome g t) → (c.update_leaf.ensures.0 ≡ Remove)
    × (c.update_leaf.ensures.1 ≢ None) × (c.update_leaf.new.self
    ≡ node_holding c.update_leaf.ensures.1 c.in-Some-seek_child_mut.child.now)
leaf-goes g t c = leaf-lost c.in-Some-seek_child_mut.child.now c.update_leaf.new.self c.update_leaf.ensures.0
    c.update_leaf.ensures.1 c.update_leaf.result.0 c.in-None-outcome.is c.update_leaf.ensures.3

pub remove_leaf-requires : goal.remove_leaf-requires
remove_leaf-requires g t c =
    let at = goal.at.remove_leaf-requires g t c in
    let on = follows g t at.In-Some-seek_child_mut in
    let lost = leaf-goes g t at.In-None-outcome in
    let left = rw c.in-Some-seek_child_mut.is at c.seek_child_mut.follows.holds c.update_leaf.new.self in
    let found = child-there _ _ c.update_leaf.new.self _ _ on.there left.1 in
    record {
      within = rw left.3 (joins-holding _ _ _ _ _ _ _ _ on.there lost.2 left.1 (joins-canonical _ _ _
          (storage_capacity c.self.inside.storage) _ on.canonical (rw (← c.self.view_is) at c.requires.within)));
      stored = some-there c.update_leaf.new.self _ found;
      leaf = rw found (
        holding-edges _ _ _ c.update_leaf.new.self (at-leaf g t at.Else-not-is_leaf_at) lost.2,
        holding-some _ _ c.update_leaf.new.self lost.1 lost.2,
      );
    }

pub returns-in-None-outcome : goal.returns-in-None-outcome
returns-in-None-outcome g t c =
    let at = goal.at.returns-in-None-outcome g t c in
    let on = follows g t at.In-Some-seek_child_mut in
    let lost = leaf-goes g t at.In-None-outcome in
    let leaf = at-leaf g t at.Else-not-is_leaf_at in
    let left = rw c.in-Some-seek_child_mut.is at c.seek_child_mut.follows.holds c.update_leaf.new.self in
    let e = c.update_leaf.ensures in (
      e.0,
      e.1,
      rw (← c.self.view_is, trie_lookup-child on, leaf-value _ c.in-Some-seek_child_mut.child.now leaf) e.2,
      rw (← c.self.view_is) (ends-lost on _ _ _ left.0 left.1 c.args.full e.0 e.1 c.remove_leaf.result
          c.remove_leaf.new.self leaf lost.0 lost.1 lost.2 (rw (left.2, left.3) at c.remove_leaf.ensures)),
    )

-- there is no child
key-absent : (g : Over) (t : ℕ) (c : In-None g t) → trie_lookup c.args.key.now c.args.self.now ≡ None
key-absent g t c = rw (← c.self.view_is)
    (trie_lookup-no_child _ c.args.key.now _ _ (stored_value c.self.inside.storage) (storage_capacity
    c.self.inside.storage)
    (child_entries c.self.inside.storage) c.in-Some.ensures c.in-Some-first.ensures.value c.in-None.ensures.value)

pub show_vacant-answer-requires-in-None-clause-callable : goal.show_vacant-answer-requires-in-None-clause-callable
show_vacant-answer-requires-in-None-clause-callable g t c =
    let none = key-absent g t (goal.at.show_vacant-answer-requires-in-None-clause-callable g t c).In-None in
    λ p h. c.requires.callable p (h ∙ ap slot_of (sym none))

pub show_vacant-answer-requires-in-None-clause-occupancy : goal.show_vacant-answer-requires-in-None-clause-occupancy
show_vacant-answer-requires-in-None-clause-occupancy g t c =
    let none = key-absent g t (goal.at.show_vacant-answer-requires-in-None-clause-occupancy g t c).In-None in
    λ r x w h. none-there w _ (c.requires.occupancy r x w (rw none h)) none

pub apply_to_child-requires-clause-absent : goal.apply_to_child-requires-clause-absent
apply_to_child-requires-clause-absent g t c =
    child-absent _ (child_entries c.self.inside.storage) _ c.in-None.ensures.value
    c.seek_child_mut.follows.holds-at-none.1

pub apply_to_child-requires-clause-within : goal.apply_to_child-requires-clause-within
apply_to_child-requires-clause-within g t c =
    rest-within _ _ c.args.key.now _ c.in-Some.ensures c.requires.key_within

pub returns-in-None : goal.returns-in-None
returns-in-None g t c =
    let none = key-absent g t (goal.at.returns-in-None g t c).In-None in
    let left = c.seek_child_mut.follows.holds-at-none in (
      c.show_vacant-answer-in-None.result.0,
      None,
      rw none c.show_vacant-answer-in-None.ensures,
      ends-same c.args.full
          c.args.key.now c.show_vacant-answer-in-None.result.0 None c.args.self.now _ c.apply_to_child.result
          (Some c.apply_to_child.new.self) (same-node _ _ _ _ (child_entries c.self.inside.storage) _ left.0 left.1
          left.2 (ap g.P.Partial.bytes left.3)
          ∙ c.self.view_is) (c.apply_to_child.ensures c.args.key.now (rw left.3 c.in-Some.ensures)),
    )
