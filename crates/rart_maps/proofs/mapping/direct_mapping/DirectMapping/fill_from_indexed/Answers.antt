use Rattle.std.proofs.Common.{◌++◌, ◌∙◌, length, sym, ap, refl, subst, arith}
use Rattle.std.specs.Prelude.{IsSome}
use Rattle.rart_parts.specs.Entries.{sorted_entries, without_byte}
use Rattle.rart_parts.proofs.entries.EntryLemmas.{length-between, length-without_byte}
use Rattle.rart_maps.proofs.MoveLemmas.{moved_absent, moved_next, moved_fits, next_first}
use Rattle.rart_maps.proofs.mapping.direct_mapping.DirectMapping.fill_from_indexed.Goals as goal

pub loop-key-init : goal.loop-key-init
loop-key-init g c =
    let few = length-between 0 256 (sorted_entries c.args.source.now.entries) (omega arith)
    c.num_children-count.ensures.ascending (λ b l. absurd (omega (arith, l))) c.num_children-count.ensures.bytes in (
      c.num_children-count.ensures.ascending,
      ap (λ es. es ++ sorted_entries c.args.source.now.entries) c.requires,
      refl,
      refl,
      omega (arith, few),
    )

pub unwrap-child-requires : goal.unwrap-child-requires
unwrap-child-requires g c = subst IsSome (sym c.delete_child.ensures.taken) c.in-Some.ensures.some

pub add_child-requires-clause-absent : goal.add_child-requires-clause-absent
add_child-requires-clause-absent g c =
    let is = next_first (sorted_entries c.args.source.now.entries) (c.loop-key.self.entries) (sorted_entries
    c.loop-key.source.entries) c.in-Some.key c.loop-key.invariant.0
    c.loop-key.invariant.1 c.in-Some.ensures.least c.unwrap-child.result
    (sym c.delete_child.ensures.taken ∙ c.unwrap-child.ensures) in
    moved_absent (sorted_entries c.args.source.now.entries) (c.loop-key.self.entries) (without_byte c.in-Some.key
    (sorted_entries c.loop-key.source.entries))
    (c.in-Some.key, c.unwrap-child.result) c.loop-key.invariant.0 is

pub add_child-requires-clause-not_full : goal.add_child-requires-clause-not_full
add_child-requires-clause-not_full g c =
    let is = next_first (sorted_entries c.args.source.now.entries) (c.loop-key.self.entries) (sorted_entries
    c.loop-key.source.entries) c.in-Some.key c.loop-key.invariant.0
    c.loop-key.invariant.1 c.in-Some.ensures.least c.unwrap-child.result
    (sym c.delete_child.ensures.taken ∙ c.unwrap-child.ensures) in
    moved_fits (sorted_entries c.args.source.now.entries) (c.loop-key.self.entries) (without_byte c.in-Some.key
    (sorted_entries c.loop-key.source.entries))
    (c.in-Some.key, c.unwrap-child.result) c.loop-key.invariant.0 is 256 c.loop-key.invariant.4

pub loop-key-preserved : goal.loop-key-preserved
loop-key-preserved g c =
    let is = next_first (sorted_entries c.args.source.now.entries) (c.loop-key.self.entries) (sorted_entries
    c.loop-key.source.entries) c.in-Some.key c.loop-key.invariant.0
    c.loop-key.invariant.1 c.in-Some.ensures.least c.unwrap-child.result
    (sym c.delete_child.ensures.taken ∙ c.unwrap-child.ensures) in (
      c.loop-key.invariant.0,
      (λ i. c.add_child.ensures.entries i ++ c.delete_child.ensures.rest i)
          ∙ moved_next (sorted_entries c.args.source.now.entries) (c.loop-key.self.entries) (without_byte
          c.in-Some.key (sorted_entries c.loop-key.source.entries))
          (c.in-Some.key, c.unwrap-child.result) c.loop-key.invariant.0 is,
      c.add_child.ensures.extra ∙ c.loop-key.invariant.2,
      c.delete_child.ensures.extra ∙ c.loop-key.invariant.3,
      c.loop-key.invariant.4,
    )

pub loop-key-smaller : goal.loop-key-smaller
loop-key-smaller g c = omega (
  arith,
  ap length c.delete_child.ensures.rest,
  length-without_byte c.in-Some.key c.unwrap-child.result (sorted_entries c.loop-key.source.entries)
      (sym c.delete_child.ensures.taken ∙ c.unwrap-child.ensures),
)
