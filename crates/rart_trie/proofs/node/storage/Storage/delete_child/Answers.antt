use Rattle.std.proofs.Common.{◌∙◌, ap, sym, length, arith}
use Rattle.rart_maps.specs.FourKeys.{four_entries}
use Rattle.rart_parts.specs.Entries.{sorted_entries}
use Rattle.rart_trie.specs.storages.Stored.{child_entries, storage_capacity}
use Rattle.rart_trie.proofs.storages.DeletionLemmas.{few-left, none-left, capacity-kept, capacity-given}
use Rattle.rart_trie.proofs.node.storage.Storage.delete_child.Goals as goal

pub returns-then-keeps_kind-clause-capacity : goal.returns-then-keeps_kind-clause-capacity
returns-then-keeps_kind-clause-capacity g c = c.delete_within.ensures.capacity
    ∙ rw (c.delete_within.ensures.entries) (capacity-kept c.args.b (storage_capacity c.args.self.now)
    (child_entries c.args.self.now)
    (c.keeps_kind.ensures.kept_kind c.if-keeps_kind.true))

pub replace_empty-requires-clause-entries : goal.replace_empty-requires-clause-entries
replace_empty-requires-clause-entries g c =
    let few = rw (← c.self.view_is, c.in-Node4.is) at c.keeps_kind.ensures.changed_kind c.if-keeps_kind.false in
    rw (c.delete_child-child.ensures.rest, c.in-Node4.map-is)
    (none-left c.args.b (four_entries c.in-Node4.keys c.in-Node4.map) few.0 few.1)

pub fill_from_sorted-requires : goal.fill_from_sorted-requires
fill_from_sorted-requires g c =
    let few = rw (← c.self.view_is, c.in-Node16.is) at c.keeps_kind.ensures.changed_kind c.if-keeps_kind.false in (
      omega arith,
      (
        c.none-keys.ensures,
        (
          ap length c.none-keys.ensures ∙ sym (ap length c.in_ok-next-in-Node16.ensures.ok.0),
          rw (c.delete_child-child-in-Node16.ensures.rest, c.in-Node16.map-is)
              (few-left c.args.b 4 c.in-Node16.map.entries few.0 few.1),
        ),
      ),
    )

pub fill_from_indexed-requires : goal.fill_from_indexed-requires
fill_from_indexed-requires g c =
    let few = rw (← c.self.view_is, c.in-Node48.is) at c.keeps_kind.ensures.changed_kind c.if-keeps_kind.false in (
      omega arith,
      (
        omega arith,
        (
          c.in_ok-next-in-Node48.ensures.entries,
          rw (
            c.delete_child-child-in-Node48.ensures.rest,
            c.in-Node48.map-is,
          )
              (few-left c.args.b 16 (sorted_entries c.in-Node48.map.entries) few.0 few.1),
        ),
      ),
    )

pub fill_from_direct-requires : goal.fill_from_direct-requires
fill_from_direct-requires g c =
    let few = rw (← c.self.view_is, c.in-Node256.is) at c.keeps_kind.ensures.changed_kind c.if-keeps_kind.false in (
      omega arith,
      (
        c.in_ok-next-in-Node256.ensures.entries,
        rw (
          c.delete_child-child-in-Node256.ensures.rest,
          c.in-Node256.map-is,
        )
            (few-left c.args.b 48 c.in-Node256.map.entries few.0 few.1),
      ),
    )

pub returns-in-Node4-clause-entries : goal.returns-in-Node4-clause-entries
returns-in-Node4-clause-entries g c =
    let few = rw (← c.self.view_is, c.in-Node4.is) at c.keeps_kind.ensures.changed_kind c.if-keeps_kind.false in
    rw (c.replace_empty.ensures, c.childless.ensures.entries, ← c.self.view_is, c.in-Node4.is) (sym (none-left c.args.b
    (four_entries c.in-Node4.keys c.in-Node4.map) few.0 few.1))

pub returns-in_ok-next-in-Node16-clause-capacity : goal.returns-in_ok-next-in-Node16-clause-capacity
returns-in_ok-next-in-Node16-clause-capacity g c =
    let few = rw (← c.self.view_is, c.in-Node16.is) at c.keeps_kind.ensures.changed_kind c.if-keeps_kind.false in
    rw (
      c.replace_empty-in-Node16.ensures,
      ← c.self.view_is,
      c.in-Node16.is,
      c.fill_from_sorted.ensures.filled,
      c.delete_child-child-in-Node16.ensures.rest,
      c.in-Node16.map-is,
    ) (capacity-given c.args.b 16 c.in-Node16.map.entries few.0 few.1)

pub returns-in_ok-next-in-Node48-clause-capacity : goal.returns-in_ok-next-in-Node48-clause-capacity
returns-in_ok-next-in-Node48-clause-capacity g c =
    let few = rw (← c.self.view_is, c.in-Node48.is) at c.keeps_kind.ensures.changed_kind c.if-keeps_kind.false in
    rw (
      c.replace_empty-in-Node48.ensures,
      ← c.self.view_is,
      c.in-Node48.is,
      c.fill_from_indexed.ensures.filled,
      c.delete_child-child-in-Node48.ensures.rest,
      c.in-Node48.map-is,
    ) (capacity-given c.args.b 48 (sorted_entries c.in-Node48.map.entries) few.0 few.1)

pub returns-in_ok-next-in-Node256-clause-capacity : goal.returns-in_ok-next-in-Node256-clause-capacity
returns-in_ok-next-in-Node256-clause-capacity g c =
    let few = rw (← c.self.view_is, c.in-Node256.is) at c.keeps_kind.ensures.changed_kind c.if-keeps_kind.false in
    rw (
      c.replace_empty-in-Node256.ensures,
      ← c.self.view_is,
      c.in-Node256.is,
      c.fill_from_direct.ensures.filled,
      c.delete_child-child-in-Node256.ensures.rest,
      c.in-Node256.map-is,
    ) (capacity-given c.args.b 256 c.in-Node256.map.entries few.0 few.1)
