use Rattle.std.proofs.Common.{◌∙◌, None, get_or, sym, ap, arith}
use Rattle.rart_parts.specs.Entries.{child_at, without_byte, sorted_entries}
use Rattle.rart_parts.proofs.entries.EntryLemmas.{without_absent}
use Rattle.rart_maps.proofs.DenseLemmas.{dense_none}
use Rattle.rart_maps.proofs.DenseRemovals.{last_dense, last_map, last_taken, lower, moved_dense, moved_map, moved_taken}
use Rattle.rart_maps.proofs.mapping.indexed_mapping.IndexedMappingNodeMapping.delete_child.Goals as goal

pub returns-in_default-clause-taken : goal.returns-in_default-clause-taken
returns-in_default-clause-taken g c =
    let unnamed = ap (λ s. get_or s.index c.args.key None) (sym c.keys.ensures) ∙ sym c.in_default.ensures in
    sym (dense_none c.self.invariant c.args.key unnamed)
    ∙ ap (λ d. child_at c.args.key (sorted_entries d.entries)) c.self.view_is

pub returns-in_default-clause-rest : goal.returns-in_default-clause-rest
returns-in_default-clause-rest g c =
    let unnamed = ap (λ s. get_or s.index c.args.key None) (sym c.keys.ensures) ∙ sym c.in_default.ensures in
    sym (without_absent c.args.key (sorted_entries c.args.self.now.entries)
    (sym (ap (λ d. child_at c.args.key (sorted_entries d.entries)) c.self.view_is)
    ∙ dense_none c.self.invariant c.args.key unnamed))

pub invariant_of-self : goal.invariant_of-self
invariant_of-self g c =
    let named = ap (λ s. get_or s.index c.args.key None) (sym c.keys.ensures) ∙ sym c.in-Some.ensures in
    let split = rw c.unwrap-last.ensures at c.pop.ensures in
    rw (c.erase-slot.ensures.new, c.keys_mut-slots.ensures.value, ← ap (λ b. b.keys) split)
    (last_dense c.self.invariant c.pop.new.self.items c.unwrap-last.result (ap (λ b. b.items) split) c.args.key
    c.in-Some.slot c.len-end.result named c.len-end.ensures.count c.if-slot-end.true)

pub returns-then-slot-end-clause-taken : goal.returns-then-slot-end-clause-taken
returns-then-slot-end-clause-taken g c =
    let named = ap (λ s. get_or s.index c.args.key None) (sym c.keys.ensures) ∙ sym c.in-Some.ensures in
    let split = rw c.unwrap-last.ensures at c.pop.ensures in
    sym (last_taken c.self.invariant c.pop.new.self.items c.unwrap-last.result (ap (λ b. b.items) split) c.args.key
    c.in-Some.slot c.len-end.result named c.len-end.ensures.count c.if-slot-end.true)
    ∙ ap (λ d. child_at c.args.key (sorted_entries d.entries)) c.self.view_is

pub returns-then-slot-end-clause-rest : goal.returns-then-slot-end-clause-rest
returns-then-slot-end-clause-rest g c =
    let named = ap (λ s. get_or s.index c.args.key None) (sym c.keys.ensures) ∙ sym c.in-Some.ensures in
    let split = rw c.unwrap-last.ensures at c.pop.ensures in
    rw (c.keys_mut-slots.ensures.value, ← ap (λ b. b.keys) split)
    (last_map c.self.invariant c.pop.new.self.items c.unwrap-last.result (ap (λ b. b.items) split) c.args.key
    c.in-Some.slot c.len-end.result named c.len-end.ensures.count c.if-slot-end.true
    ∙ ap (λ d. without_byte c.args.key (sorted_entries d.entries)) c.self.view_is)

pub item_mut-requires : goal.item_mut-requires
item_mut-requires g c =
    let named = ap (λ s. get_or s.index c.args.key None) (sym c.keys.ensures) ∙ sym c.in-Some.ensures in
    let split = rw c.unwrap-last.ensures at c.pop.ensures in (
      omega arith,
      omega (
        arith,
        lower c.self.invariant c.pop.new.self.items c.unwrap-last.result (ap (λ b. b.items) split) c.args.key
            c.in-Some.slot c.len-end.result named c.len-end.ensures.count c.if-slot-end.false,
        c.len-end.ensures.count,
      ),
    )

pub invariant_of-self-2 : goal.invariant_of-self-2
invariant_of-self-2 g c =
    let named = ap (λ s. get_or s.index c.args.key None) (sym c.keys.ensures) ∙ sym c.in-Some.ensures in
    let split = rw c.unwrap-last.ensures at c.pop.ensures in
    rw (
      c.replace.ensures.after,
      c.set.ensures,
      c.erase-slot.ensures.new,
      c.keys_mut-slots.ensures.value,
      ← ap (λ b. b.keys) split,
    )
    (moved_dense c.self.invariant c.pop.new.self.items c.unwrap-last.result (ap (λ b. b.items) split) c.args.key
    c.in-Some.slot c.len-end.result named c.len-end.ensures.count c.if-slot-end.false)

pub returns-clause-taken : goal.returns-clause-taken
returns-clause-taken g c =
    let named = ap (λ s. get_or s.index c.args.key None) (sym c.keys.ensures) ∙ sym c.in-Some.ensures in
    let split = rw c.unwrap-last.ensures at c.pop.ensures in
    sym (moved_taken c.self.invariant c.pop.new.self.items c.unwrap-last.result (ap (λ b. b.items) split) c.args.key
    c.in-Some.slot c.len-end.result named c.len-end.ensures.count c.if-slot-end.false
    c.replace.result (rw c.replace.ensures.value c.item_mut.ensures.value))
    ∙ ap (λ d. child_at c.args.key (sorted_entries d.entries)) c.self.view_is

pub returns-clause-rest : goal.returns-clause-rest
returns-clause-rest g c =
    let named = ap (λ s. get_or s.index c.args.key None) (sym c.keys.ensures) ∙ sym c.in-Some.ensures in
    let split = rw c.unwrap-last.ensures at c.pop.ensures in
    rw (c.replace.ensures.after, c.keys_mut-slots.ensures.value, ← ap (λ b. b.keys) split)
    (moved_map c.self.invariant c.pop.new.self.items c.unwrap-last.result (ap (λ b. b.items) split) c.args.key
    c.in-Some.slot c.len-end.result named c.len-end.ensures.count c.if-slot-end.false
    ∙ ap (λ d. without_byte c.args.key (sorted_entries d.entries)) c.self.view_is)
