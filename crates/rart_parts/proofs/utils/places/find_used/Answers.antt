use Rattle.std.proofs.Common.{sym, ◌∙◌}
use Rattle.rart_parts.proofs.PlaceLemmas.{read_used, found_more, found_same, found_all}
use Rattle.rart_parts.proofs.utils.places.find_used.Goals.{then-is_some-2, else-is_some-2}
use Rattle.rart_parts.proofs.utils.places.find_used.Goals as goal

pub loop-position-preserved : goal.loop-position-preserved
loop-position-preserved g c =
    let at = c.loop-position.position in
    let os = c.args.places.now in
    let read = c.is_some-in-loop-position.ensures
    ∙ read_used os at c.index-places-position.result c.loop-position-test.true c.index-places-position.is in
    elim c.if-is_some-2.branch [
      | then-is_some-2 w ↦ rw w.used-is (found_more g.B.BitsetTrait.CAPACITY (g.B.BitsetTrait.has c.loop-position.used)
          os at c.loop-position.invariant (g.B.BitsetTrait.has w.set.new.self) (sym read ∙ w.if-is_some-2.true)
          w.set.ensures)
      | else-is_some-2 w ↦ rw w.used-is (found_same g.B.BitsetTrait.CAPACITY (g.B.BitsetTrait.has c.loop-position.used)
          os at c.loop-position.invariant (sym read ∙ w.if-is_some-2.false))
    ]

pub returns : goal.returns
returns g c = found_all g.B.BitsetTrait.CAPACITY (g.B.BitsetTrait.has c.loop-position.used) c.args.places.now
    c.loop-position.position c.loop-position.invariant c.loop-position-test.false
