use Rattle.std.proofs.Common.{[], refl, arith, rules, of_calls, ap, ◌∙◌, sym}
use Rattle.std.specs.Option.{option_copied_mut}
use Rattle.rart_keys.specs.ByteStrings.{begins}
use Rattle.rart_trie.specs.storages.Stored.{child_entries, storage_capacity, stored_prefix, stored_value}
use Rattle.rart_trie.specs.tries.TrieCode.{as_children}
use Rattle.rart_trie.proofs.changes.ValueWalkLemmas.{all-callable, changing-childless, changing-end, changing-lent}
use Rattle.rart_trie.proofs.changes.ValueWalkLemmas.{changing-step, next-child, next-there, own-callable}
use Rattle.rart_trie.proofs.node.DefaultNode.+change_each.Goals.{in-Some, in_default}
use Rattle.rart_trie.proofs.node.DefaultNode.+change_each.Goals as goal

pub f-requires : goal.f-requires
f-requires g t c = own-callable _ c.args.f.now (g.P.Partial.bytes (stored_prefix c.self.inside.storage))
    (stored_value c.self.inside.storage)
    c.in-Some.value.now (storage_capacity c.self.inside.storage) (as_children (child_entries c.self.inside.storage))
    (sym c.value_mut.ensures.value ∙ ap option_copied_mut c.in-Some.is)
    (rw (← c.self.view_is) at c.requires.callable) _ refl

pub loop-next-init : goal.loop-next-init
loop-next-init g t c = elim c.match-value_mut.branch [
  | in-Some w ↦
      let left = (rw w.in-Some.is at c.value_mut.follows.holds w.f.new.arg2).0 in
      rw (w.f-is, w.self-inside-is, ← c.self.view_is, left.0, left.1, left.2, left.3) (changing-lent _
      (g.P.Partial.bytes (stored_prefix c.self.inside.storage)) (stored_value c.self.inside.storage)
      w.in-Some.value.now _ (storage_capacity c.self.inside.storage)
      (child_entries c.self.inside.storage) c.args.f.now w.f.new.self _ (rw (← c.self.view_is) at c.requires.canonical)
      (sym c.value_mut.ensures.value ∙ ap option_copied_mut w.in-Some.is) (search (rules, of_calls))
      (rw (← c.self.view_is) at c.requires.callable) (rw (w.self-inside-is, left.1) at c.first_byte-next.ensures))
  | in_default w ↦
      let left = c.value_mut.follows.holds-at-none in
      rw (w.f-is, w.self-inside-is, ← c.self.view_is, left.0, left.1, left.2, left.3) (changing-childless _
      (g.P.Partial.bytes (stored_prefix c.self.inside.storage)) (stored_value c.self.inside.storage) (storage_capacity
      c.self.inside.storage)
      (child_entries c.self.inside.storage) c.args.f.now _ (rw (← c.self.view_is) at c.requires.canonical)
      (sym c.value_mut.ensures.value ∙ ap option_copied_mut w.in_default.is)
      (rw (← c.self.view_is) at c.requires.callable) (rw (w.self-inside-is, left.1) at c.first_byte-next.ensures))
]

pub change_each-requires : goal.change_each-requires
change_each-requires g t c κs within =
    let next = next-child _ _ _ _ _ _ _ _ _ _ c.in-Some-seek_child_mut.child.now
    (rw c.in-Some-next.is at c.loop-next.invariant) c.in-Some-seek_child_mut.ensures.value in (
      omega (arith, c.decreases, next.fewer),
      (within.0, (within.1.0, (within.1.1, (next.canonical, all-callable _ _ _ next.callable)))),
    )

pub unreachable-requires : goal.unreachable-requires
unreachable-requires g t c = next-there _ _ _ _ _ _ _ _ _ _ (rw c.in-Some-next.is at c.loop-next.invariant)
    c.in-None.ensures.value

pub loop-next-smaller : goal.loop-next-smaller
loop-next-smaller g t c =
    let left = rw c.in-Some-seek_child_mut.is at c.seek_child_mut.follows.holds c.change_each.new.self in
    rw c.in-Some-next.is (changing-step _ _ _ _ _ _ _ _ _ _ _ _ _ _ _ _ (rw c.in-Some-next.is at c.loop-next.invariant)
    c.in-Some-seek_child_mut.ensures.value c.change_each.ensures.canonical c.change_each.ensures.prefix
    c.change_each.ensures.changes left.0 left.1 c.byte_above-next.ensures).1

pub loop-next-preserved : goal.loop-next-preserved
loop-next-preserved g t c =
    let left = rw c.in-Some-seek_child_mut.is at c.seek_child_mut.follows.holds c.change_each.new.self in
    rw (left.2, left.3) (changing-step _ _ _ _ _ _ _ _ _ _ _ _ _ _ _ _ (rw c.in-Some-next.is at c.loop-next.invariant)
    c.in-Some-seek_child_mut.ensures.value c.change_each.ensures.canonical c.change_each.ensures.prefix
    c.change_each.ensures.changes left.0 left.1 c.byte_above-next.ensures).0

pub returns-clause-changes : goal.returns-clause-changes
returns-clause-changes g t c = changing-end _ (begins []) (begins []) _ _ _ _ _ _ _
    (rw c.in_default-next.is at c.loop-next.invariant) (λ k. refl)
