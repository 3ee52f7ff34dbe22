use Rattle.std.proofs.Common.{refl, ◌∙◌, arith, sym}
use Rattle.rart_trie.specs.storages.Stored.{child_entries, storage_capacity, stored_prefix, stored_value}
use Rattle.rart_trie.proofs.edits.TakeValueLemmas.{next-child, next-fits, next-there, own-none, own-taken, taking-end}
use Rattle.rart_trie.proofs.edits.TakeValueLemmas.{taking-start, taking-step}
use Rattle.rart_trie.proofs.node.DefaultNode.+take_each.Goals.{in-Some, in_default}
use Rattle.rart_trie.proofs.node.DefaultNode.+take_each.Goals as goal

pub loop-next-init : goal.loop-next-init
loop-next-init g t c = elim c.match-take_value.branch [
  | in-Some w ↦ rw (w.values-is, ← c.self.view_is, c.take_value.ensures.emptied.1) (record {
    taking = taking-start (g.P.Partial.bytes (stored_prefix c.self.inside.storage)) (stored_value c.self.inside.storage)
        (storage_capacity c.self.inside.storage) (child_entries c.self.inside.storage) c.args.values.now.items _ _
        (rw (← c.self.view_is) at c.requires.canonical)
        (own-taken _ _ _ _ (sym c.take_value.ensures.taken ∙ w.in-Some.is) w.push_reserved.ensures.items)
        (rw c.take_value.ensures.emptied.1 at c.first_byte-next.ensures);
    capacity = w.push_reserved.ensures.capacity;
  })
  | in_default w ↦ rw (w.values-is, ← c.self.view_is, c.take_value.ensures.emptied.1) (record {
    taking = taking-start (g.P.Partial.bytes (stored_prefix c.self.inside.storage)) (stored_value c.self.inside.storage)
        (storage_capacity c.self.inside.storage) (child_entries c.self.inside.storage) c.args.values.now.items _ _
        (rw (← c.self.view_is) at c.requires.canonical)
        (own-none _ _ (sym c.take_value.ensures.taken ∙ w.in_default.is))
        (rw c.take_value.ensures.emptied.1 at c.first_byte-next.ensures);
    capacity = refl;
  })
]

pub take_each-requires : goal.take_each-requires
take_each-requires g t c κs within =
    let next = next-child _ _ _ _ _ c.in-Some-seek_child_mut.child.now
    (rw c.in-Some-next.is at c.loop-next.invariant.taking) c.in-Some-seek_child_mut.ensures.value in
    let fits = next-fits _ _ _ _ _ _ _ next c.requires.reserved in (
      omega (arith, c.decreases, next.fewer),
      (within.0, (within.1, (next.canonical, omega (arith, fits, c.loop-next.invariant.capacity)))),
    )

pub unreachable-requires : goal.unreachable-requires
unreachable-requires g t c = next-there _ _ _ _ _ (rw c.in-Some-next.is at c.loop-next.invariant.taking)
    c.in-None.ensures.value

pub loop-next-smaller : goal.loop-next-smaller
loop-next-smaller g t c =
    let left = rw c.in-Some-seek_child_mut.is at c.seek_child_mut.follows.holds c.take_each.new.self in
    rw c.in-Some-next.is (taking-step _ _ _ _ _ _ _ _ _ _ (rw c.in-Some-next.is at c.loop-next.invariant.taking)
    c.in-Some-seek_child_mut.ensures.value c.take_each.ensures.values left.1 c.byte_above-next.ensures).1

pub loop-next-preserved : goal.loop-next-preserved
loop-next-preserved g t c =
    let left = rw c.in-Some-seek_child_mut.is at c.seek_child_mut.follows.holds c.take_each.new.self in record {
      taking = (taking-step _ _ _ _ _ _ _ _ _ _ (rw c.in-Some-next.is at c.loop-next.invariant.taking)
          c.in-Some-seek_child_mut.ensures.value c.take_each.ensures.values left.1 c.byte_above-next.ensures).0;
      capacity = c.take_each.ensures.capacity ∙ c.loop-next.invariant.capacity;
    }

pub returns-clause-values : goal.returns-clause-values
returns-clause-values g t c = taking-end _ _ _ _ (rw c.in_default-next.is at c.loop-next.invariant.taking)
