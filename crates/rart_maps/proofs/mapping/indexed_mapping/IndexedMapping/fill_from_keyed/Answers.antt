use Rattle.std.proofs.Common.{◌∙◌, ap, arith, length, refl}
use Rattle.rart_parts.specs.Entries.{sorted_entries}
use Rattle.rart_parts.proofs.entries.EntryLemmas.{length-without_byte}
use Rattle.rart_maps.proofs.SplitLemmas.{split_start, split_absent, split_fits, split_next, split_done}
use Rattle.rart_maps.proofs.mapping.indexed_mapping.IndexedMapping.fill_from_keyed.Goals as goal

pub loop-key-init : goal.loop-key-init
loop-key-init g c = (
  split_start (sorted_entries c.args.source.now) (sorted_entries c.args.self.now.entries)
      c.num_children-count.ensures.ascending c.requires.empty,
  refl,
)

pub add_child-requires : goal.add_child-requires
add_child-requires g c =
    let whole = sorted_entries c.args.source.now in
    let moved = sorted_entries c.loop-key.self.entries in
    let rest = sorted_entries c.loop-key.source in
    let split = c.loop-key.invariant.0 in (
      omega arith,
      (
        split_absent whole moved rest split c.in-Some.key c.in-Some.child c.in-Some.ensures.0,
        split_fits whole moved rest split c.in-Some.key c.in-Some.child c.in-Some.ensures.0 g.row.W c.requires.at_most,
      ),
    )

pub loop-key-preserved : goal.loop-key-preserved
loop-key-preserved g c =
    let whole = sorted_entries c.args.source.now in
    let moved = sorted_entries c.loop-key.self.entries in
    let rest = sorted_entries c.loop-key.source in (
      rw (c.add_child.ensures.entries, c.in-Some.ensures.1)
          (split_next whole moved rest c.loop-key.invariant.0 c.in-Some.key c.in-Some.child c.in-Some.ensures.0),
      c.add_child.ensures.extra ∙ c.loop-key.invariant.1,
    )

pub loop-key-smaller : goal.loop-key-smaller
loop-key-smaller g c =
    omega (
      arith,
      ap length c.in-Some.ensures.1,
      length-without_byte c.in-Some.key c.in-Some.child
          (sorted_entries c.loop-key.source) c.in-Some.ensures.0,
    )

pub returns-clause-filled : goal.returns-clause-filled
returns-clause-filled g c =
    split_done (sorted_entries c.args.source.now) (sorted_entries c.loop-key.self.entries)
    (sorted_entries c.loop-key.source) c.loop-key.invariant.0 c.in_default.ensures.0
