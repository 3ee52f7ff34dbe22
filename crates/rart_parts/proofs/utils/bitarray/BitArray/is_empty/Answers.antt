use Rattle.std.proofs.Common.{◌∙◌, sym, ap, length}
use Rattle.rart_parts.proofs.PlaceLemmas.{empty_if}
use Rattle.rart_parts.proofs.utils.bitarray.BitArray.is_empty.Goals as goal

pub returns : goal.returns
returns g c = empty_if c.args.self.now g.row.RANGE_WIDTH c.first_used.result c.is_none.result
    (sym (ap length c.self.view_is) ∙ c.self.invariant.full) c.first_used.ensures c.is_none.ensures
