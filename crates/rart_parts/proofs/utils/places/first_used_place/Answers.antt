use Rattle.std.proofs.Common.{sym, ◌∙◌}
use Rattle.rart_parts.specs.Places.{is_used}
use Rattle.rart_parts.proofs.PlaceLemmas.{read_used, below_more}
use Rattle.rart_parts.proofs.utils.places.first_used_place.Goals as goal

pub returns-then-is_some : goal.returns-then-is_some
returns-then-is_some g c = (
  c.loop-position-test.true,
  sym
      (read_used c.args.places.now c.loop-position.position _ c.loop-position-test.true c.index-places-position.is)
      ∙ sym c.if-is_some.ensures,
  c.loop-position.invariant,
)

pub loop-position-preserved : goal.loop-position-preserved
loop-position-preserved g c = below_more (is_used c.args.places.now) c.loop-position.position c.loop-position.invariant
    (sym (read_used c.args.places.now c.loop-position.position _ c.loop-position-test.true c.index-places-position.is)
    ∙ sym c.if-is_some.ensures)
