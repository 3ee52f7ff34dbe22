use Rattle.std.proofs.Common.{ap, ◌∙◌, refl, sym, arith}
use Rattle.std.proofs.lemmas.List.{length-drop}
use Rattle.rart_trie.specs.storages.Stored.{child_entries, storage_capacity, stored_prefix, stored_value}
use Rattle.rart_trie.proofs.storages.ChildLemmas.{child_at-beside}
use Rattle.rart_trie.proofs.edits.Descent.{first, first-differ}
use Rattle.rart_trie.proofs.tries.PrefixedStrings.{slice_from-is}
use Rattle.rart_trie.proofs.edits.InsertLemmas.{cut-lower, cut-aligned}
use Rattle.rart_trie.proofs.tries.RestLemmas.{parts-within}
use Rattle.rart_trie.proofs.node.DefaultNode.split.Goals as goal

pub at-low_byte-requires : goal.at-low_byte-requires
at-low_byte-requires g c =
    let within = parts-within _ c.args.key.now _ c.prefix_length_slice-shared.ensures.value
    (rw (← c.self.view_is, ← c.prefix-prefix.ensures) at c.requires.leaves) in
    rw c.partial_after-low.ensures (omega (
      arith,
      length-drop c.prefix_length_slice-shared.result (g.P.Partial.bytes c.prefix-prefix.result.now),
      within,
    ))

pub returns-then-key-shared-clause-ok : goal.returns-then-key-shared-clause-ok
returns-then-key-shared-clause-ok g c = rw (← c.self.view_is, ← c.prefix-prefix.ensures)
    (cut-lower _ c.args.key.now c.args.value _ _ _ c.prefix_length_slice-shared.result _
    (g.P.Partial.bytes c.partial_after-low.result) _ _ _
    c.prefix_length_slice-shared.ensures.value
    (parts-within _ c.args.key.now _ c.prefix_length_slice-shared.ensures.value
    (rw (← c.self.view_is, ← c.prefix-prefix.ensures) at c.requires.leaves)) c.if-key-shared.true
    (ap g.P.Partial.bytes (c.fill_value.ensures.3 ∙ c.add_within.ensures.prefix_kept
    ∙ ap stored_prefix c.replace-storage.ensures.after ∙ c.in-Ok.ensures.prefix) ∙ c.partial_before-head.ensures)
    c.partial_after-low.ensures c.fill_value.ensures.2
    (c.fill_value.ensures.0 ∙ c.add_within.ensures.capacity ∙ ap storage_capacity c.replace-storage.ensures.after
    ∙ c.in-Ok.ensures.capacity)
    (rw (
      c.fill_value.ensures.1,
      c.add_within.ensures.entries,
      c.replace-storage.ensures.after,
      c.in-Ok.ensures.entries,
      c.set_prefix.ensures.0,
      c.set_prefix.ensures.1,
      c.set_prefix.ensures.2,
      c.set_prefix.ensures.3,
      c.replace-storage.ensures.value,
      c.at-low_byte.ensures,
    ) refl))

pub returns-clause-ok : goal.returns-clause-ok
returns-clause-ok g c = rw (← c.self.view_is, ← c.prefix-prefix.ensures)
    (cut-aligned _ c.args.key.now c.args.value _ _ _ c.prefix_length_slice-shared.result _
    (g.P.Partial.bytes c.partial_after-low.result) _ _ _ _
    c.prefix_length_slice-shared.ensures.value
    (parts-within _ c.args.key.now _ c.prefix_length_slice-shared.ensures.value
    (rw (← c.self.view_is, ← c.prefix-prefix.ensures) at c.requires.leaves)) c.if-key-shared.false
    (ap g.P.Partial.bytes (c.add_within-2.ensures.prefix_kept ∙ c.add_within.ensures.prefix_kept
    ∙ ap stored_prefix c.replace-storage.ensures.after ∙ c.in-Ok.ensures.prefix) ∙ c.partial_before-head.ensures)
    c.partial_after-low.ensures (slice_from-is c.args.key.now c.prefix_length_slice-shared.result)
    (c.add_within-2.ensures.value_kept ∙ c.add_within.ensures.value_kept ∙ ap stored_value
    c.replace-storage.ensures.after
    ∙ c.in-Ok.ensures.value)
    (c.add_within-2.ensures.capacity ∙ c.add_within.ensures.capacity ∙ ap storage_capacity
    c.replace-storage.ensures.after
    ∙ c.in-Ok.ensures.capacity)
    (rw (
      c.add_within-2.ensures.entries,
      c.add_within.ensures.entries,
      c.replace-storage.ensures.after,
      c.in-Ok.ensures.entries,
      c.set_prefix.ensures.0,
      c.set_prefix.ensures.1,
      c.set_prefix.ensures.2,
      c.set_prefix.ensures.3,
      c.replace-storage.ensures.value,
      c.at-low_byte.ensures,
      c.new_leaf-leaf.ensures.leaf,
      c.from_slice.ensures,
    ) refl))

pub add_within-requires-2-clause-absent : goal.add_within-requires-2-clause-absent
add_within-requires-2-clause-absent g c = child_at-beside c.at-low_byte.result _ _
    (child_entries c.add_within.new.self)
    (rw (c.replace-storage.ensures.after, c.in-Ok.ensures.entries) at c.add_within.ensures.entries)
    (λ s. first-differ _ c.args.key.now c.prefix_length_slice-shared.result c.prefix_length_slice-shared.ensures.value
    (parts-within _ c.args.key.now _ c.prefix_length_slice-shared.ensures.value
    (rw (← c.self.view_is, ← c.prefix-prefix.ensures) at c.requires.leaves)) c.if-key-shared.false
    (sym (c.at-low_byte.ensures ∙ ap first c.partial_after-low.ensures) ∙ s
    ∙ ap first (slice_from-is c.args.key.now c.prefix_length_slice-shared.result)))
