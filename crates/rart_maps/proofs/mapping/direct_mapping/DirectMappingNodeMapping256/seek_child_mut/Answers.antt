use Rattle.std.proofs.Common.{sym, ap, ◌∙◌, refl, arith}
use Rattle.rart_parts.specs.Entries.{child_at, replaced_at}
use Rattle.rart_maps.proofs.DirectLemmas.{numbered_child, numbered-written, direct_written}
use Rattle.rart_maps.proofs.DirectPlaces.{agrees_written, filled_some, has_byte, used_at, vacant_none}
use Rattle.rart_maps.proofs.mapping.direct_mapping.DirectMappingNodeMapping256.seek_child_mut.Goals as goal

pub get_mut-requires : goal.get_mut-requires
get_mut-requires g c = (
  omega arith,
  filled_some c.self.inside.block.items c.args.key
      (sym (c.self.invariant.1 c.args.key (omega (arith, c.ranges.key.fits)))
      ∙ ap (λ u. has_byte u.bytes.words c.args.key) (sym c.keys.ensures) ∙ sym c.if-check.ensures),
)

pub invariant_of-self-lent : goal.invariant_of-self-lent
invariant_of-self-lent g c w = (
  direct_written c.self.invariant.0 c.args.key (omega (arith, c.ranges.key.fits)) c.get_mut.result.now w
      c.get_mut.ensures.value,
  agrees_written c.self.inside.block.keys.bytes.words c.self.inside.block.items c.self.invariant.1 c.args.key
      (omega (arith, c.ranges.key.fits, c.self.invariant.0.full))
      (used_at c.self.inside.block.items c.args.key c.get_mut.result.now c.get_mut.ensures.value) w,
)

pub returns-then-check : goal.returns-then-check
returns-then-check g c = (
  (
    refl,
    λ w. (
      numbered-written c.self.inside.block.items c.args.key (omega
          (arith, c.ranges.key.fits, c.self.invariant.0.full)) c.get_mut.result.now w c.get_mut.ensures.value
          ∙ ap (λ d. replaced_at c.args.key w d.entries) c.self.view_is,
      ap (λ d. d.extra) c.self.view_is,
    ),
    (refl, refl),
  ),
  record {
    writes_back = tt;
    value = sym c.get_mut.ensures.value ∙ sym (numbered_child c.self.inside.block.items c.args.key)
        ∙ ap (λ d. child_at c.args.key d.entries) c.self.view_is;
  },
)

pub returns-else-check : goal.returns-else-check
returns-else-check g c = (
  (refl, λ w. tt, (ap (λ d. d.entries) c.self.view_is, ap (λ d. d.extra) c.self.view_is)),
  record {
    writes_back = tt;
    value = sym (vacant_none c.self.inside.block.items c.args.key
        (sym (c.self.invariant.1 c.args.key (omega (arith, c.ranges.key.fits)))
        ∙ ap (λ u. has_byte u.bytes.words c.args.key) (sym c.keys.ensures) ∙ sym c.if-check.ensures))
        ∙ sym (numbered_child c.self.inside.block.items c.args.key)
        ∙ ap (λ d. child_at c.args.key d.entries) c.self.view_is;
  },
)
