use Rattle.std.proofs.Common.{sym, ◌∙◌, subst}
use Rattle.rart_parts.specs.Places.{GivesLast}
use Rattle.rart_parts.proofs.PlaceLemmas.{used_read}
use Rattle.rart_parts.proofs.utils.bitarray.BitArray.last.Goals as goal

pub returns : goal.returns
returns g c =
    let at = c.in_ok-last_used_pos.ensures in
    let x = used_read c.args.self.now c.in_ok-last_used_pos.field-0 at.1 in
    subst (GivesLast g.row.RANGE_WIDTH c.args.self.now) (sym (c.get.ensures ∙ x.1))
    (c.in_ok-last_used_pos.field-0, (at, x.1))
