use Rattle.std.proofs.Common.{sym, ap, ◌∙◌, arith}
use Rattle.rart_parts.specs.Entries.{child_at, without_byte}
use Rattle.rart_parts.specs.Places.{numbered_values}
use Rattle.rart_parts.proofs.PlaceLemmas.{used_read}
use Rattle.rart_maps.proofs.DirectLemmas.{numbered_child, numbered-taken, direct_taken, direct_without, vacant_same}
use Rattle.rart_maps.proofs.DirectPlaces.{agrees_taken, filled_some, has_byte, vacant_none}
use Rattle.rart_maps.proofs.mapping.direct_mapping.DirectMappingNodeMapping256.delete_child.Goals as goal

pub returns-then-not-check-clause-taken : goal.returns-then-not-check-clause-taken
returns-then-not-check-clause-taken g c = sym (vacant_none c.self.inside.block.items c.args.key
    (sym (c.self.invariant.1 c.args.key (omega (arith, c.ranges.key.fits)))
    ∙ ap (λ u. has_byte u.bytes.words c.args.key) (sym c.keys.ensures) ∙ sym c.if-not-check.ensures))
    ∙ sym (numbered_child c.self.inside.block.items c.args.key)
    ∙ ap (λ d. child_at c.args.key d.entries) c.self.view_is

pub returns-then-not-check-clause-rest : goal.returns-then-not-check-clause-rest
returns-then-not-check-clause-rest g c = sym (ap (λ d. d.entries) c.self.view_is)
    ∙ ap (numbered_values 0) (sym (vacant_same c.self.inside.block.items c.args.key
    (vacant_none c.self.inside.block.items c.args.key
    (sym (c.self.invariant.1 c.args.key (omega (arith, c.ranges.key.fits)))
    ∙ ap (λ u. has_byte u.bytes.words c.args.key) (sym c.keys.ensures) ∙ sym c.if-not-check.ensures))))
    ∙ numbered-taken c.self.inside.block.items c.args.key (omega (arith, c.ranges.key.fits, c.self.invariant.0.full))
    ∙ ap (λ d. without_byte c.args.key d.entries) c.self.view_is

pub overflow_sub-used : goal.overflow_sub-used
overflow_sub-used g c =
    let x = used_read c.self.inside.block.items c.args.key
    (sym (c.self.invariant.1 c.args.key (omega (arith, c.ranges.key.fits)))
    ∙ ap (λ u. has_byte u.bytes.words c.args.key) (sym c.keys.ensures) ∙ sym c.if-not-check.ensures) in
    omega (
      arith,
      ap (λ u. u.count) c.keys_mut-used.ensures.value,
      direct_taken c.self.invariant.0 c.args.key (omega (arith, c.ranges.key.fits)) x.0 x.1,
    )

pub take-requires : goal.take-requires
take-requires g c = (
  omega arith,
  filled_some c.self.inside.block.items c.args.key
      (sym (c.self.invariant.1 c.args.key (omega (arith, c.ranges.key.fits)))
      ∙ ap (λ u. has_byte u.bytes.words c.args.key) (sym c.keys.ensures) ∙ sym c.if-not-check.ensures),
)

pub invariant_of-self : goal.invariant_of-self
invariant_of-self g c =
    let less = rw c.keys_mut-used.ensures.value at c.unset.ensures in
    rw (c.take.ensures.vacated, c.keys_mut-used.ensures.value) (
      direct_without c.self.invariant.0 c.args.key (omega (arith, c.ranges.key.fits)) c.take.result
          c.take.ensures.taken,
      agrees_taken c.self.inside.block.keys.bytes.words c.self.inside.block.items c.self.invariant.1 c.args.key (omega
          (arith, c.ranges.key.fits, c.self.invariant.0.full))
          c.unset.new.self.words less,
    )

pub returns-clause-taken : goal.returns-clause-taken
returns-clause-taken g c = sym c.take.ensures.taken ∙ sym (numbered_child c.self.inside.block.items c.args.key)
    ∙ ap (λ d. child_at c.args.key d.entries) c.self.view_is

pub returns-clause-rest : goal.returns-clause-rest
returns-clause-rest g c = rw c.take.ensures.vacated
    (numbered-taken c.self.inside.block.items c.args.key (omega (arith, c.ranges.key.fits, c.self.invariant.0.full))
    ∙ ap (λ d. without_byte c.args.key d.entries) c.self.view_is)
