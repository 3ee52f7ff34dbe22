use Rattle.std.proofs.Common.{sym, ◌∙◌, ap, not}
use Rattle.rart_parts.specs.Places.{is_used}
use Rattle.rart_parts.proofs.PlaceLemmas.{read_used, below_more}
use Rattle.rart_parts.proofs.utils.places.first_free_place.Goals as goal

pub returns-then-is_none : goal.returns-then-is_none
returns-then-is_none g c = (
  c.loop-position-test.true,
  ap not (sym (read_used c.args.places.now c.loop-position.position _ c.loop-position-test.true
      c.index-places-position.is) ∙ c.if-is_none.ensures),
  c.loop-position.invariant,
)

pub loop-position-preserved : goal.loop-position-preserved
loop-position-preserved g c = below_more (λ k. not (is_used c.args.places.now k)) c.loop-position.position
    c.loop-position.invariant
    (ap not (sym (read_used c.args.places.now c.loop-position.position _ c.loop-position-test.true
    c.index-places-position.is) ∙ c.if-is_none.ensures))
