use Rattle.std.proofs.Common.{ap, sym, arith, refl}
use Rattle.rart_trie.specs.storages.Stored.{child_entries, storage_capacity, stored_prefix, stored_value}
use Rattle.rart_trie.specs.tries.Trie.{prefix_of}
use Rattle.rart_trie.specs.tries.TrieCode.{node_count}
use Rattle.rart_trie.proofs.changes.PrefixChangeLemmas.{begins-ended, begins-within, changes-absent, changes-apart}
use Rattle.rart_trie.proofs.changes.PrefixChangeLemmas.{child-callable, child-changes, whole-callable, whole-changes}
use Rattle.rart_trie.proofs.storages.EntryPlaces.{child-canonical}
use Rattle.rart_trie.proofs.storages.ChildLemmas.{canonical-found, count-found}
use Rattle.rart_trie.proofs.node.DefaultNode.+change_below.Goals.{in-Some-seek_child_mut, in_default-seek_child_mut}
use Rattle.rart_trie.proofs.node.DefaultNode.+change_below.Goals as goal

-- the prefix ends within that of the node
pub change_each-requires-clause-callable : goal.change_each-requires-clause-callable
change_each-requires-clause-callable g t c = whole-callable _ c.args.prefix.now c.args.self.now c.args.f.now
    (begins-within c.args.prefix.now (g.P.Partial.bytes (stored_prefix c.self.inside.storage))
    (prefix_of c.args.self.now)
    (ap prefix_of (sym c.self.view_is)) c.in_default.ensures (rw c.prefix.ensures at c.if-starts_with.ensures))
    c.requires.callable

pub returns-then-starts_with-clause-changes : goal.returns-then-starts_with-clause-changes
returns-then-starts_with-clause-changes g t c = whole-changes _ c.args.prefix.now c.args.self.now
    c.change_each.new.self c.args.f.now c.change_each.new.f
    (begins-within c.args.prefix.now (g.P.Partial.bytes (stored_prefix c.self.inside.storage))
    (prefix_of c.args.self.now)
    (ap prefix_of (sym c.self.view_is)) c.in_default.ensures (rw c.prefix.ensures at c.if-starts_with.ensures))
    c.change_each.ensures.changes

-- or leaves it
pub returns-else-starts_with-clause-changes : goal.returns-else-starts_with-clause-changes
returns-else-starts_with-clause-changes g t c = changes-apart _ c.args.prefix.now
    (g.P.Partial.bytes (stored_prefix c.self.inside.storage)) c.args.self.now c.args.f.now
    (ap prefix_of (sym c.self.view_is))
    c.in_default.ensures (rw c.prefix.ensures at c.if-starts_with.ensures)

-- or ends after it
pub change_each-requires-in_default-first-clause-callable :
    goal.change_each-requires-in_default-first-clause-callable
change_each-requires-in_default-first-clause-callable g t c = whole-callable _ c.args.prefix.now c.args.self.now
    c.args.f.now (begins-ended c.args.prefix.now (g.P.Partial.bytes (stored_prefix c.self.inside.storage))
    (prefix_of c.args.self.now)
    c.in-Some.rest.now (ap prefix_of (sym c.self.view_is)) c.in-Some.ensures c.in_default-first.ensures.value)
    c.requires.callable

pub returns-in_default-first-clause-changes : goal.returns-in_default-first-clause-changes
returns-in_default-first-clause-changes g t c = whole-changes _ c.args.prefix.now c.args.self.now
    c.change_each-in_default-first.new.self c.args.f.now c.change_each-in_default-first.new.f
    (begins-ended c.args.prefix.now (g.P.Partial.bytes (stored_prefix c.self.inside.storage))
    (prefix_of c.args.self.now)
    c.in-Some.rest.now (ap prefix_of (sym c.self.view_is)) c.in-Some.ensures c.in_default-first.ensures.value)
    c.change_each-in_default-first.ensures.changes

-- or continues in a child
pub change_below-requires : goal.change_below-requires
change_below-requires g t c κs within =
    let canonical = rw (← c.self.view_is) at c.requires.canonical in
    let child = c.in-Some-seek_child_mut.ensures.value in
    let byte = c.in-Some-first.ensures.value in
    let callable = child-callable _ c.args.prefix.now c.in-Some.rest.now c.in-Some-first.field-0.now
    (g.P.Partial.bytes (stored_prefix c.self.inside.storage)) (stored_value c.self.inside.storage) (storage_capacity
    c.self.inside.storage)
    c.in-Some-seek_child_mut.child.now (child_entries c.self.inside.storage) c.args.f.now canonical c.in-Some.ensures
    byte
    child (rw (← c.self.view_is) at c.requires.callable) in
    let canonical_child = canonical-found _ 0 c.in-Some-seek_child_mut.child.now (child_entries c.self.inside.storage)
    canonical.2 child in (
      omega (
        arith,
        c.decreases,
        ap node_count c.self.view_is,
        count-found _ 0 c.in-Some-seek_child_mut.child.now (child_entries c.self.inside.storage) canonical.2 child,
      ),
      (within.0, (within.1.0, (within.1.1, (canonical_child, callable)))),
    )

pub returns-clause-canonical : goal.returns-clause-canonical
returns-clause-canonical g t c =
    let canonical = rw (← c.self.view_is) at c.requires.canonical in
    elim c.match-seek_child_mut.branch [
      | in-Some-seek_child_mut w ↦
          let left = rw w.in-Some-seek_child_mut.is at c.seek_child_mut.follows.holds w.change_below.new.self in
          rw (w.self-inside-is, left.2) (child-canonical (g.P.Partial.bytes (stored_prefix c.self.inside.storage))
          (stored_value c.self.inside.storage)
          (storage_capacity c.self.inside.storage) _ c.in-Some-first.field-0.now w.in-Some-seek_child_mut.child.now
          w.change_below.new.self (child_entries c.self.inside.storage) _ canonical
          w.in-Some-seek_child_mut.ensures.value
          w.change_below.ensures.canonical w.change_below.ensures.prefix left.0 left.1)
      | in_default-seek_child_mut w ↦
          let left = c.seek_child_mut.follows.holds-at-none in
          rw (w.self-inside-is, left.0, left.1, left.2) canonical
    ]

pub returns-clause-prefix : goal.returns-clause-prefix
returns-clause-prefix g t c =
    elim c.match-seek_child_mut.branch [
      | in-Some-seek_child_mut w ↦
          let left = rw w.in-Some-seek_child_mut.is at c.seek_child_mut.follows.holds w.change_below.new.self in
          rw (w.self-inside-is, ← c.self.view_is, left.3) refl
      | in_default-seek_child_mut w ↦
          let left = c.seek_child_mut.follows.holds-at-none in
          rw (w.self-inside-is, ← c.self.view_is, left.3) refl
    ]

pub returns-clause-changes : goal.returns-clause-changes
returns-clause-changes g t c =
    let canonical = rw (← c.self.view_is) at c.requires.canonical in
    elim c.match-seek_child_mut.branch [
      | in-Some-seek_child_mut w ↦
          let left = rw w.in-Some-seek_child_mut.is at c.seek_child_mut.follows.holds w.change_below.new.self in
          rw (w.f-is, w.self-inside-is, ← c.self.view_is, left.2, left.3)
          (child-changes _ c.args.prefix.now c.in-Some.rest.now
          c.in-Some-first.field-0.now (g.P.Partial.bytes (stored_prefix c.self.inside.storage))
          (stored_value c.self.inside.storage)
          (storage_capacity c.self.inside.storage) (storage_capacity (c.seek_child_mut.follows.lender
          w.change_below.new.self))
          w.in-Some-seek_child_mut.child.now w.change_below.new.self
          (child_entries c.self.inside.storage) _ c.args.f.now w.change_below.new.f canonical c.in-Some.ensures
          c.in-Some-first.ensures.value w.in-Some-seek_child_mut.ensures.value w.change_below.ensures.changes left.1)
      | in_default-seek_child_mut w ↦
          let left = c.seek_child_mut.follows.holds-at-none in
          rw (w.f-is, w.self-inside-is, ← c.self.view_is, left.1, left.2, left.3) (changes-absent _ c.args.prefix.now
          c.in-Some.rest.now c.in-Some-first.field-0.now (g.P.Partial.bytes (stored_prefix c.self.inside.storage))
          (stored_value c.self.inside.storage)
          (storage_capacity c.self.inside.storage) (child_entries c.self.inside.storage) c.args.f.now canonical
          c.in-Some.ensures
          c.in-Some-first.ensures.value w.in_default-seek_child_mut.ensures.value)
    ]
