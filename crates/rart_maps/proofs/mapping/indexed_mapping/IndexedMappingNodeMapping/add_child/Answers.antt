use Rattle.std.proofs.Common.{◌∙◌, length, ap, arith}
use Rattle.rart_parts.specs.Entries.{child_at, with_entry, sorted_entries}
use Rattle.rart_maps.proofs.DenseLemmas.{dense_count, pushed_dense, pushed_map}
use Rattle.rart_maps.proofs.mapping.indexed_mapping.IndexedMappingNodeMapping.add_child.Goals as goal

pub set-requires : goal.set-requires
set-requires g c = omega (
  arith,
  c.len-slot.ensures.count,
  c.requires.not_full,
  dense_count c.self.invariant,
  ap (λ d. length (sorted_entries d.entries)) c.self.view_is,
  c.self.invariant.narrow,
)

pub bounds-slots-slot : goal.bounds-slots-slot
bounds-slots-slot g c = omega (
  arith,
  c.len-slot.ensures.count,
  c.requires.not_full,
  dense_count c.self.invariant,
  ap (λ d. length (sorted_entries d.entries)) c.self.view_is,
  c.self.invariant.narrow,
)

pub push-requires : goal.push-requires
push-requires g c = (
  omega arith,
  omega (
    arith,
    c.requires.not_full,
    dense_count c.self.invariant,
    ap (λ d. length (sorted_entries d.entries)) c.self.view_is,
  ),
)

pub invariant_of-self : goal.invariant_of-self
invariant_of-self g c = rw (c.push.ensures, c.set.ensures, c.keys_mut-slots.ensures.value)
    (pushed_dense c.self.invariant c.args.key c.len-slot.result c.args.node (omega (arith, c.ranges.key.fits))
    c.len-slot.ensures.count (omega (
      arith,
      c.requires.not_full,
      dense_count c.self.invariant,
      ap (λ d. length (sorted_entries d.entries)) c.self.view_is,
    ))
    (ap (λ d. child_at c.args.key (sorted_entries d.entries)) c.self.view_is ∙ c.requires.absent))

pub returns-clause-entries : goal.returns-clause-entries
returns-clause-entries g c = rw (c.push.ensures, c.keys_mut-slots.ensures.value)
    (pushed_map c.self.invariant c.args.key c.len-slot.result c.args.node (omega (arith, c.ranges.key.fits))
    c.len-slot.ensures.count (omega (
      arith,
      c.requires.not_full,
      dense_count c.self.invariant,
      ap (λ d. length (sorted_entries d.entries)) c.self.view_is,
    ))
    (ap (λ d. child_at c.args.key (sorted_entries d.entries)) c.self.view_is ∙ c.requires.absent)
    ∙ ap (λ d. with_entry c.args.key c.args.node (sorted_entries d.entries)) c.self.view_is)
