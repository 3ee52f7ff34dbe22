use Rattle.std.proofs.Common.{[], ◌∙◌, ap, arith, length, subst, sym}
use Rattle.rart_trie.specs.edits.RetainSteps.{CallsForOwn}
use Rattle.rart_trie.specs.ranges.Parts.{is_in_part}
use Rattle.rart_trie.specs.storages.Stored.{child_entries, storage_capacity, stored_prefix, stored_value}
use Rattle.rart_trie.specs.tries.Trie.{prefix_of}
use Rattle.rart_trie.specs.tries.TrieCode.{as_children}
use Rattle.rart_trie.proofs.ranges.PartLemmas.{after-prefix}
use Rattle.rart_trie.proofs.retentions.RetainEndLemmas.{retaining-end, retaining-within}
use Rattle.rart_trie.proofs.retentions.RetainJoins.{applied-prefix, applied-value, only-child-capacity}
use Rattle.rart_trie.proofs.retentions.RetainStepLemmas.{retaining-step}
use Rattle.rart_trie.proofs.retentions.RetainWalkLemmas.{child-callable, own-callable, retaining-start, upcoming}
use Rattle.rart_trie.proofs.retentions.RetainWalkLemmas.{upcoming-there, upcoming-within}
use Rattle.rart_trie.proofs.retentions.RetainedParts.{child-part}
use Rattle.rart_trie.proofs.removals.PopLemmas.{prefix-within}
use Rattle.rart_trie.proofs.node.DefaultNode.+retain_part.Goals as goal

pub extend-requires : goal.extend-requires
extend-requires g t c = prefix-within _ (length (g.P.Partial.bytes c.args.path.now))
    (g.P.Partial.bytes (stored_prefix c.self.inside.storage)) (stored_value c.self.inside.storage) (storage_capacity
    c.self.inside.storage)
    (as_children (child_entries c.self.inside.storage)) (rw (← c.self.view_is) at c.requires.canonical)
    (rw (← c.self.view_is) at c.requires.within)

pub call_for_own-keeps-requires : goal.call_for_own-keeps-requires
call_for_own-keeps-requires g t c = record {
  callable = λ v e i key lent k l. own-callable _ c.after_prefix-inside.result c.args.part
      (g.P.Partial.bytes c.args.path.now)
      (g.P.Partial.bytes (stored_prefix c.self.inside.storage)) c.args.f.now (stored_value c.self.inside.storage) v
      (storage_capacity c.self.inside.storage) (as_children (child_entries c.self.inside.storage)) (after-prefix
      c.args.part c.after_prefix-inside.result
      (g.P.Partial.bytes (stored_prefix c.self.inside.storage)) (g.P.Partial.bytes c.prefix.result.now)
      (ap g.P.Partial.bytes (sym c.prefix.ensures)) c.after_prefix-inside.ensures) e i
      (rw (← c.self.view_is) at c.requires.callable) key lent (k ∙ c.to_slice.ensures ∙ c.extend.ensures) l;
}

pub loop-next-init : goal.loop-next-init
loop-next-init g t c = record {
  path = rw c.call_for_own-keeps.ensures.same.3 c.extend.ensures;
  visited = rw (
    ← c.self.view_is,
    c.call_for_own-keeps.ensures.same.0,
    c.call_for_own-keeps.ensures.same.1,
    c.call_for_own-keeps.ensures.same.3,
  )
      (retaining-start _ c.after_prefix-inside.result c.args.part (g.P.Partial.bytes c.args.path.now)
      (g.P.Partial.bytes (stored_prefix c.self.inside.storage)) c.args.f.now c.call_for_own-keeps.new.f
      (stored_value c.self.inside.storage)
      (stored_value c.call_for_own-keeps.new.storage) c.call_for_own-keeps.result c.has_value-has_value.result
      (storage_capacity c.self.inside.storage) (child_entries c.self.inside.storage) c.first_byte-next.result
      (after-prefix c.args.part c.after_prefix-inside.result
      (g.P.Partial.bytes (stored_prefix c.self.inside.storage)) (g.P.Partial.bytes c.prefix.result.now)
      (ap g.P.Partial.bytes (sym c.prefix.ensures)) c.after_prefix-inside.ensures) (rw (← c.self.view_is) at
      c.requires.canonical)
      (subst (λ k. CallsForOwn g.F.FnMut (is_in_part c.after_prefix-inside.result []) k c.args.f.now (stored_value
      c.self.inside.storage) c.call_for_own-keeps.result
      (stored_value c.call_for_own-keeps.new.storage) c.call_for_own-keeps.new.f) (c.to_slice.ensures
      ∙ c.extend.ensures)
      c.call_for_own-keeps.ensures.calls) c.has_value-has_value.ensures (rw (← c.self.view_is) at c.requires.callable)
      (rw c.call_for_own-keeps.ensures.same.1 at c.first_byte-next.ensures));
}

pub unreachable-requires : goal.unreachable-requires
unreachable-requires g t c = upcoming-there _ _ _ _ _ _ _ _ _ _ _ _ _ _
    (rw c.in-Some.is at c.loop-next.invariant.visited) c.in-None.ensures.value

pub retain_part-below-requires : goal.retain_part-below-requires
retain_part-below-requires g t c κs within =
    let next = upcoming _ _ _ _ _ _ _ _ _ _ _ _ _ _ c.in-Some-seek_child_mut.child.now
    (rw c.in-Some.is at c.loop-next.invariant.visited) c.in-Some-seek_child_mut.ensures.value in
    let fits = upcoming-within _ _ _ _ _ _ _ _ _ _ (g.P.Partial.bytes c.loop-next.path) _ _ _ _ _ c.requires.canonical
    next c.loop-next.invariant.path c.requires.within in (
      omega (arith, c.decreases, next.fewer),
      (
        within.0,
        (
          within.1.0,
          (
            within.1.1,
            (
              next.canonical,
              (
                fits,
                child-callable _ c.after_prefix-inside.result
                    c.at_child.result (g.P.Partial.bytes c.loop-next.path) c.loop-next.f c.in-Some.byte
                    c.in-Some-seek_child_mut.child.now next.start c.at_child.ensures
                    (rw c.loop-next.invariant.path next.callable),
              ),
            ),
          ),
        ),
      ),
    )

pub loop-next-smaller : goal.loop-next-smaller
loop-next-smaller g t c =
    let left = rw c.in-Some-seek_child_mut.is at c.seek_child_mut.follows.holds c.retain_part-below.new.self in
    let next = upcoming _ _ _ _ _ _ _ _ _ _ _ _ _ _ c.in-Some-seek_child_mut.child.now
    (rw c.in-Some.is at c.loop-next.invariant.visited) c.in-Some-seek_child_mut.ensures.value in
    rw c.in-Some.is (retaining-step _ _ _ _ _ _ _ _ _ _ _ _ _ _ _ _ next c.retain_part-below.result
    c.apply_to_child-walk.result _ c.apply_to_child-walk.new.storage c.following_byte-next.result
    c.retain_part-below.ensures.canonical c.retain_part-below.ensures.keeps_first
    (child-part _ c.after_prefix-inside.result c.at_child.result _ c.retain_part-below.result _ _ c.in-Some.byte _ _
    next.start c.at_child.ensures (rw c.loop-next.invariant.path at c.retain_part-below.ensures.retains))
    left.0 left.1 c.apply_to_child-walk.ensures c.following_byte-next.ensures).1

pub loop-next-preserved : goal.loop-next-preserved
loop-next-preserved g t c =
    let left = rw c.in-Some-seek_child_mut.is at c.seek_child_mut.follows.holds c.retain_part-below.new.self in
    let next = upcoming _ _ _ _ _ _ _ _ _ _ _ _ _ _ c.in-Some-seek_child_mut.child.now
    (rw c.in-Some.is at c.loop-next.invariant.visited) c.in-Some-seek_child_mut.ensures.value in
    record {
      path = rw (applied-prefix _ _ _ _ _ _ c.apply_to_child-walk.ensures ∙ left.3) (c.retain_part-below.ensures.path
          ∙ c.loop-next.invariant.path);
      visited = rw (
        applied-value _ _ _ _ _ _ c.apply_to_child-walk.ensures ∙ left.2,
        applied-prefix _ _ _ _ _ _ c.apply_to_child-walk.ensures ∙ left.3,
      ) (retaining-step _ _ _ _ _ _ _ _ _ _ _ _ _ _ _ _ next c.retain_part-below.result
          c.apply_to_child-walk.result _ c.apply_to_child-walk.new.storage c.following_byte-next.result
          c.retain_part-below.ensures.canonical c.retain_part-below.ensures.keeps_first
          (child-part _ c.after_prefix-inside.result c.at_child.result _ c.retain_part-below.result _ _ c.in-Some.byte
          _ _ next.start c.at_child.ensures
          (rw c.loop-next.invariant.path at c.retain_part-below.ensures.retains))
          left.0 left.1 c.apply_to_child-walk.ensures c.following_byte-next.ensures).0;
    }

pub finish-requires-clause-capacity : goal.finish-requires-clause-capacity
finish-requires-clause-capacity g t c = λ lone. only-child-capacity (storage_capacity c.loop-next.self-inside.storage)
    (child_entries c.loop-next.self-inside.storage) c.loop-next.invariant.visited.capacity lone

pub finish-requires-clause-within : goal.finish-requires-clause-within
finish-requires-clause-within g t c = retaining-within _ _ _ _ _ _ _ _ _ _ _ _ _ _ _ c.requires.canonical
    c.loop-next.invariant.visited c.requires.within

pub returns-clause-canonical : goal.returns-clause-canonical
returns-clause-canonical g t c = rw c.finish.ensures.node (retaining-end _ c.after_prefix-inside.result c.args.part _
    _ _ _ _ _ _ _ _ _ _
    (after-prefix c.args.part c.after_prefix-inside.result
    (prefix_of c.args.self.now) (g.P.Partial.bytes c.prefix.result.now)
    (ap prefix_of (sym c.self.view_is) ∙ ap g.P.Partial.bytes (sym c.prefix.ensures)) c.after_prefix-inside.ensures)
    (rw c.in_default.is at c.loop-next.invariant.visited)).canonical

pub returns-clause-keeps_first : goal.returns-clause-keeps_first
returns-clause-keeps_first g t c = rw c.finish.ensures.node (retaining-end _ c.after_prefix-inside.result c.args.part
    _ _ _ _ _ _ _ _ _ _ _
    (after-prefix c.args.part c.after_prefix-inside.result
    (prefix_of c.args.self.now) (g.P.Partial.bytes c.prefix.result.now)
    (ap prefix_of (sym c.self.view_is) ∙ ap g.P.Partial.bytes (sym c.prefix.ensures)) c.after_prefix-inside.ensures)
    (rw c.in_default.is at c.loop-next.invariant.visited)).first

pub returns-clause-retains : goal.returns-clause-retains
returns-clause-retains g t c = rw (c.finish.ensures.outcome, c.finish.ensures.node)
    (retaining-end _ c.after_prefix-inside.result c.args.part _ _ _ _ _ _ _ _ _ _ _
    (after-prefix c.args.part c.after_prefix-inside.result
    (prefix_of c.args.self.now) (g.P.Partial.bytes c.prefix.result.now)
    (ap prefix_of (sym c.self.view_is) ∙ ap g.P.Partial.bytes (sym c.prefix.ensures)) c.after_prefix-inside.ensures)
    (rw c.in_default.is at c.loop-next.invariant.visited)).retains
