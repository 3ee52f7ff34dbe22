use Rattle.std.proofs.Common.{sym, ◌∙◌, ◌-◌, ◌<◌, length, arith}
use Rattle.rart_parts.specs.Places.{is_used}
use Rattle.rart_parts.proofs.PlaceLemmas.{read_used, read_true, above_more}
use Rattle.rart_parts.proofs.utils.places.last_used_place.Goals as goal

pub returns-then-is_some : goal.returns-then-is_some
returns-then-is_some g c =
    let at = c.loop-position.position in
    let within : at - 1 < length c.args.places.now
    = omega (arith, c.loop-position-test.true, c.loop-position.auto.position) in (
      within,
      read_true c.args.places.now (at - 1) _ within c.index-places-position.is c.if-is_some.ensures,
      λ k l m.
          c.loop-position.invariant k (omega (arith, l)) m,
    )

pub loop-position-preserved : goal.loop-position-preserved
loop-position-preserved g c =
    let at = c.loop-position.position in
    let within : at - 1 < length c.args.places.now
    = omega (arith, c.loop-position-test.true, c.loop-position.auto.position) in
    above_more (is_used c.args.places.now) at _ c.loop-position.invariant
    (sym (read_used c.args.places.now (at - 1) _ within c.index-places-position.is) ∙ sym c.if-is_some.ensures)
