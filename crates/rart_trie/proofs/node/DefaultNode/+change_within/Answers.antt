use Rattle.std.proofs.Common.{◌≡◌, ℕ, Some, arith, ap, ◌∙◌, sym}
use Rattle.rart_trie.specs.declared.node.ends.End.TheVariants.{First, Last}
use Rattle.rart_trie.specs.ranges.BoundCuts.{bound_past}
use Rattle.rart_trie.specs.ranges.LentBounds.{lent_bound}
use Rattle.rart_trie.specs.storages.Stored.{child_entries, storage_capacity, stored_prefix, stored_value}
use Rattle.rart_trie.specs.tries.Trie.{pairs_of, prefix_of}
use Rattle.rart_trie.specs.tries.TrieCode.{as_children}
use Rattle.rart_trie.proofs.changes.RangeChangeLemmas.{child-before, child-between, child-past, child-within}
use Rattle.rart_trie.proofs.changes.RangeChangeLemmas.{outside-end, outside-start, own-within, whole-callable}
use Rattle.rart_trie.proofs.changes.RangeChangeLemmas.{whole-changes, within-end, within-start}
use Rattle.rart_trie.proofs.changes.ValueWalkLemmas.{changing-step, next-child, next-there}
use Rattle.rart_trie.proofs.node.DefaultNode.+change_within.Given.{Over}
use Rattle.rart_trie.proofs.node.DefaultNode.+change_within.Goals.{In-Some-after_prefix}
use Rattle.rart_trie.proofs.node.DefaultNode.+change_within.Goals as goal

-- without a bound
pub change_each-requires-clause-callable : goal.change_each-requires-clause-callable
change_each-requires-clause-callable g t c = whole-callable _ (lent_bound c.args.start) (lent_bound c.args.end)
    (pairs_of c.args.self.now) c.args.f.now (sym c.has_bounds.ensures ∙ c.if-not-has_bounds.true) c.requires.callable

pub returns-then-not-has_bounds-clause-changes : goal.returns-then-not-has_bounds-clause-changes
returns-then-not-has_bounds-clause-changes g t c = whole-changes _ (lent_bound c.args.start) (lent_bound c.args.end)
    (pairs_of c.args.self.now) (pairs_of c.change_each.new.self) c.args.f.now c.change_each.new.f
    (sym c.has_bounds.ensures ∙ c.if-not-has_bounds.true) c.change_each.ensures.changes

-- past one of the bounds
pub returns-in_default-clause-changes : goal.returns-in_default-clause-changes
returns-in_default-clause-changes g t c = outside-start _ (lent_bound c.args.start) (lent_bound c.args.end)
    c.args.self.now c.args.f.now (ap (λ z. bound_past First z (lent_bound c.args.start))
    (ap prefix_of (sym c.self.view_is) ∙ ap g.P.Partial.bytes (sym c.prefix.ensures)) ∙ sym c.in_default.ensures)

pub returns-in_default-after_prefix-clause-changes : goal.returns-in_default-after_prefix-clause-changes
returns-in_default-after_prefix-clause-changes g t c = outside-end _ (lent_bound c.args.start)
    (lent_bound c.args.end) c.args.self.now c.args.f.now (ap (λ z. bound_past Last z (lent_bound c.args.end))
    (ap prefix_of (sym c.self.view_is) ∙ ap g.P.Partial.bytes (sym c.prefix-2.ensures))
    ∙ sym c.in_default-after_prefix.ensures)

-- what the bounds are after the node's prefix
start-past : (g : Over) (t : ℕ) (c : In-Some-after_prefix g t)
    → bound_past First (prefix_of c.args.self.now) (lent_bound c.args.start) ≡ Some (lent_bound c.in-Some.low)
start-past g t c = ap (λ z. bound_past First z (lent_bound c.args.start))
    (ap prefix_of (sym c.self.view_is) ∙ ap g.P.Partial.bytes (sym c.prefix.ensures)) ∙ sym c.in-Some.ensures

end-past : (g : Over) (t : ℕ) (c : In-Some-after_prefix g t)
    → bound_past Last (prefix_of c.args.self.now) (lent_bound c.args.end)
    ≡ Some (lent_bound c.in-Some-after_prefix.high)
end-past g t c = ap (λ z. bound_past Last z (lent_bound c.args.end))
    (ap prefix_of (sym c.self.view_is) ∙ ap g.P.Partial.bytes (sym c.prefix-2.ensures))
    ∙ sym c.in-Some-after_prefix.ensures

pub change_own-requires : goal.change_own-requires
change_own-requires g t c =
    let at = (goal.at.change_own-requires g t c).In-Some-after_prefix in
    record {
      callable = own-within _ (lent_bound c.args.start) (lent_bound c.args.end) (lent_bound c.in-Some.low)
          (lent_bound c.in-Some-after_prefix.high) (g.P.Partial.bytes (stored_prefix c.self.inside.storage))
          (stored_value c.self.inside.storage) (storage_capacity c.self.inside.storage)
          (as_children (child_entries c.self.inside.storage)) c.args.f.now
          (rw (← c.self.view_is) at (start-past g t at)) (rw (← c.self.view_is) at (end-past g t at))
          (rw (← c.self.view_is) at c.requires.callable);
    }

-- the children from the start on
pub loop-next-init : goal.loop-next-init
loop-next-init g t c =
    let at = (goal.at.loop-next-init g t c).In-Some-after_prefix in
    let same = c.change_own.ensures.same in
    rw (← c.self.view_is, same.0, same.1, same.3)
    (within-start _ (lent_bound c.args.start) (lent_bound c.args.end) (lent_bound c.in-Some.low)
    (lent_bound c.in-Some-after_prefix.high) c.byte_below.result
    (g.P.Partial.bytes (stored_prefix c.self.inside.storage)) (stored_value c.self.inside.storage)
    (stored_value c.change_own.new.storage) (storage_capacity c.self.inside.storage)
    (child_entries c.self.inside.storage) c.args.f.now c.change_own.new.f c.first_byte_after-next.result
    (rw (← c.self.view_is) at (start-past g t at)) (rw (← c.self.view_is) at (end-past g t at))
    (sym c.byte_below.ensures) (rw (← c.self.view_is) at c.requires.canonical) c.change_own.ensures.changes
    (rw (← c.self.view_is) at c.requires.callable) (rw same.1 at c.first_byte_after-next.ensures))

-- a child past the end
pub returns-in_default-at_child-clause-canonical : goal.returns-in_default-at_child-clause-canonical
returns-in_default-at_child-clause-canonical g t c = c.loop-next.invariant.canonical

pub returns-in_default-at_child-clause-prefix : goal.returns-in_default-at_child-clause-prefix
returns-in_default-at_child-clause-prefix g t c = sym (ap prefix_of c.loop-next.invariant.before)

pub returns-in_default-at_child-clause-changes : goal.returns-in_default-at_child-clause-changes
returns-in_default-at_child-clause-changes g t c =
    let at = (goal.at.returns-in_default-at_child-clause-changes g t c).In-Some-after_prefix in
    child-past _ (lent_bound c.args.start) (lent_bound c.args.end) (lent_bound c.in-Some.low)
    (lent_bound c.in-Some-after_prefix.high) _ _ _ _ _ _ _ _ (start-past g t at) (end-past g t at)
    (rw c.in-Some-next.is at c.loop-next.invariant) c.in_default-at_child.ensures

-- one before the start
pub loop-next-smaller-in_default-at_child-2 : goal.loop-next-smaller-in_default-at_child-2
loop-next-smaller-in_default-at_child-2 g t c = rw c.in-Some-next.is (child-before _ _ _ _ _ _ _ _ _ _ _ _
    (rw c.in-Some-next.is at c.loop-next.invariant) c.in_default-at_child-2.ensures c.byte_above-next.ensures).1

pub loop-next-preserved-in_default-at_child-2 : goal.loop-next-preserved-in_default-at_child-2
loop-next-preserved-in_default-at_child-2 g t c = (child-before _ _ _ _ _ _ _ _ _ _ _ _
    (rw c.in-Some-next.is at c.loop-next.invariant) c.in_default-at_child-2.ensures c.byte_above-next.ensures).0

-- one that is entered
pub change_within-requires : goal.change_within-requires
change_within-requires g t c κs within =
    let next = next-child _ _ _ _ _ _ _ _ _ _ c.in-Some-seek_child_mut.child.now
    (rw c.in-Some-next.is at c.loop-next.invariant) c.in-Some-seek_child_mut.ensures.value in (
      omega (arith, c.decreases, next.fewer),
      (
        within.0,
        (
          within.1.0,
          (
            within.1.1,
            (
              next.canonical,
              child-within _ (lent_bound c.in-Some.low) (lent_bound c.in-Some-after_prefix.high)
                  (lent_bound c.in-Some-at_child-2.child_low) (lent_bound c.in-Some-at_child.child_high)
                  c.in-Some-next.byte c.in-Some-seek_child_mut.child.now _ next.first
                  c.in-Some-at_child-2.ensures c.in-Some-at_child.ensures next.callable,
            ),
          ),
        ),
      ),
    )

pub unreachable-requires : goal.unreachable-requires
unreachable-requires g t c = next-there _ _ _ _ _ _ _ _ _ _ (rw c.in-Some-next.is at c.loop-next.invariant)
    c.in-None.ensures.value

pub loop-next-smaller : goal.loop-next-smaller
loop-next-smaller g t c =
    let next = next-child _ _ _ _ _ _ _ _ _ _ c.in-Some-seek_child_mut.child.now
    (rw c.in-Some-next.is at c.loop-next.invariant) c.in-Some-seek_child_mut.ensures.value in
    let left = rw c.in-Some-seek_child_mut.is at c.seek_child_mut.follows.holds c.change_within.new.self in
    rw c.in-Some-next.is (changing-step _ _ _ _ _ c.change_within.new.f _ _ _ _ _ _ _ _ _ _
    (rw c.in-Some-next.is at c.loop-next.invariant)
    c.in-Some-seek_child_mut.ensures.value c.change_within.ensures.canonical c.change_within.ensures.prefix
    (child-between _ (lent_bound c.in-Some.low) (lent_bound c.in-Some-after_prefix.high)
    (lent_bound c.in-Some-at_child-2.child_low) (lent_bound c.in-Some-at_child.child_high)
    c.in-Some-next.byte c.in-Some-seek_child_mut.child.now c.change_within.new.self c.loop-next.f
    c.change_within.new.f next.first c.in-Some-at_child-2.ensures c.in-Some-at_child.ensures
    c.change_within.ensures.changes) left.0 left.1 c.byte_above-next-in-Some-next.ensures).1

pub loop-next-preserved : goal.loop-next-preserved
loop-next-preserved g t c =
    let next = next-child _ _ _ _ _ _ _ _ _ _ c.in-Some-seek_child_mut.child.now
    (rw c.in-Some-next.is at c.loop-next.invariant) c.in-Some-seek_child_mut.ensures.value in
    let left = rw c.in-Some-seek_child_mut.is at c.seek_child_mut.follows.holds c.change_within.new.self in
    rw (left.2, left.3) (changing-step _ _ _ _ _ c.change_within.new.f _ _ _ _ _ _ _ _ _ _
    (rw c.in-Some-next.is at c.loop-next.invariant)
    c.in-Some-seek_child_mut.ensures.value c.change_within.ensures.canonical c.change_within.ensures.prefix
    (child-between _ (lent_bound c.in-Some.low) (lent_bound c.in-Some-after_prefix.high)
    (lent_bound c.in-Some-at_child-2.child_low) (lent_bound c.in-Some-at_child.child_high)
    c.in-Some-next.byte c.in-Some-seek_child_mut.child.now c.change_within.new.self c.loop-next.f
    c.change_within.new.f next.first c.in-Some-at_child-2.ensures c.in-Some-at_child.ensures
    c.change_within.ensures.changes) left.0 left.1 c.byte_above-next-in-Some-next.ensures).0

-- no child is left
pub returns-clause-changes : goal.returns-clause-changes
returns-clause-changes g t c =
    let at = (goal.at.returns-clause-changes g t c).In-Some-after_prefix in
    within-end _ (lent_bound c.args.start) (lent_bound c.args.end) (lent_bound c.in-Some.low)
    (lent_bound c.in-Some-after_prefix.high) _ _ _ _ _ _ _ (start-past g t at) (end-past g t at)
    (rw c.in_default-next.is at c.loop-next.invariant)
