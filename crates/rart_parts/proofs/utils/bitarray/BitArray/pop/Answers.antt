use Rattle.std.proofs.Common.{sym, ◌∙◌, subst}
use Rattle.rart_parts.specs.Places.{PopsLast}
use Rattle.rart_parts.proofs.PlaceLemmas.{used_read}
use Rattle.rart_parts.proofs.utils.bitarray.BitArray.pop.Goals as goal

pub returns : goal.returns
returns g c =
    let at = c.in_ok-position.ensures in
    let x = used_read c.args.self.now c.in_ok-position.position at.1 in
    subst (λ r. PopsLast g.row.RANGE_WIDTH c.args.self.now r c.erase.new.self) (sym (c.erase.ensures.old ∙ x.1))
    (c.in_ok-position.position, (at, x.1, c.erase.ensures.new))
