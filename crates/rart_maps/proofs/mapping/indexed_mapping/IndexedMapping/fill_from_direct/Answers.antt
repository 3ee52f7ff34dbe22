use Rattle.std.proofs.Common.{◌++◌, ◌∙◌, length, sym, ap, subst, arith}
use Rattle.std.specs.Prelude.{IsSome}
use Rattle.rart_parts.specs.Entries.{sorted_entries, without_byte}
use Rattle.rart_parts.proofs.entries.EntryLemmas.{length-without_byte}
use Rattle.rart_maps.proofs.MoveLemmas.{moved_absent, moved_next, moved_fits, next_first}
use Rattle.rart_maps.proofs.mapping.indexed_mapping.IndexedMapping.fill_from_direct.Goals as goal

pub unwrap-child-requires : goal.unwrap-child-requires
unwrap-child-requires g c = subst IsSome (sym c.delete_child.ensures.taken) c.in-Some.ensures.some

pub add_child-requires : goal.add_child-requires
add_child-requires g c =
    let is = next_first (c.args.source.now.entries) (sorted_entries
    c.loop-key.self.entries) (c.loop-key.source.entries) c.in-Some.key c.loop-key.invariant.0
    c.loop-key.invariant.1 c.in-Some.ensures.least c.unwrap-child.result
    (sym c.delete_child.ensures.taken ∙ c.unwrap-child.ensures) in (
      omega arith,
      (
        moved_absent (c.args.source.now.entries) (sorted_entries c.loop-key.self.entries) (without_byte c.in-Some.key
            (c.loop-key.source.entries))
            (c.in-Some.key, c.unwrap-child.result) c.loop-key.invariant.0 is,
        moved_fits (c.args.source.now.entries) (sorted_entries c.loop-key.self.entries) (without_byte c.in-Some.key
            (c.loop-key.source.entries))
            (c.in-Some.key, c.unwrap-child.result) c.loop-key.invariant.0 is g.row.W c.requires.at_most,
      ),
    )

pub loop-key-preserved : goal.loop-key-preserved
loop-key-preserved g c =
    let is = next_first (c.args.source.now.entries) (sorted_entries
    c.loop-key.self.entries) (c.loop-key.source.entries) c.in-Some.key c.loop-key.invariant.0
    c.loop-key.invariant.1 c.in-Some.ensures.least c.unwrap-child.result
    (sym c.delete_child.ensures.taken ∙ c.unwrap-child.ensures) in (
      c.loop-key.invariant.0,
      (λ i. c.add_child.ensures.entries i ++ c.delete_child.ensures.rest i)
          ∙ moved_next (c.args.source.now.entries) (sorted_entries c.loop-key.self.entries) (without_byte
          c.in-Some.key (c.loop-key.source.entries))
          (c.in-Some.key, c.unwrap-child.result) c.loop-key.invariant.0 is,
      c.add_child.ensures.extra ∙ c.loop-key.invariant.2,
      c.delete_child.ensures.extra ∙ c.loop-key.invariant.3,
    )

pub loop-key-smaller : goal.loop-key-smaller
loop-key-smaller g c = omega (
  arith,
  ap length c.delete_child.ensures.rest,
  length-without_byte c.in-Some.key c.unwrap-child.result (c.loop-key.source.entries)
      (sym c.delete_child.ensures.taken ∙ c.unwrap-child.ensures),
)
