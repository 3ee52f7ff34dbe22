use Rattle.std.proofs.Common.{◌∙◌, sym, ap, arith}
use Rattle.rart_parts.specs.Entries.{child_at}
use Rattle.rart_maps.proofs.DirectLemmas.{numbered_child}
use Rattle.rart_maps.proofs.DirectPlaces.{filled_some, vacant_none, has_byte}
use Rattle.rart_maps.proofs.mapping.direct_mapping.DirectMappingNodeMapping256.seek_child.Goals as goal

pub get-requires : goal.get-requires
get-requires g c = (
  omega arith,
  filled_some c.self.inside.block.items c.args.key
      (sym (c.self.invariant.1 c.args.key (omega (arith, c.ranges.key.fits)))
      ∙ ap (λ u. has_byte u.bytes.words c.args.key) (sym c.keys.ensures) ∙ sym c.if-check.ensures),
)

pub returns-then-check : goal.returns-then-check
returns-then-check g c = sym c.get.ensures ∙ sym (numbered_child c.self.inside.block.items c.args.key)
    ∙ ap (λ d. child_at c.args.key d.entries) c.self.view_is

pub returns-else-check : goal.returns-else-check
returns-else-check g c = sym (vacant_none c.self.inside.block.items c.args.key
    (sym (c.self.invariant.1 c.args.key (omega (arith, c.ranges.key.fits)))
    ∙ ap (λ u. has_byte u.bytes.words c.args.key) (sym c.keys.ensures) ∙ sym c.if-check.ensures))
    ∙ sym (numbered_child c.self.inside.block.items c.args.key)
    ∙ ap (λ d. child_at c.args.key d.entries) c.self.view_is
