use Rattle.std.proofs.Common.{◌∙◌, ap, length, arith}
use Rattle.rart_parts.proofs.PlaceLemmas.{array_known, size_agrees}
use Rattle.rart_parts.proofs.utils.bitarray.BitArray.size.Goals as goal

pub returns-then-is_some : goal.returns-then-is_some
returns-then-is_some g c =
    rw (← c.self.view_is) (c.size.ensures ∙ size_agrees g.B.BitsetTrait.CAPACITY
    (g.B.BitsetTrait.has c.self.inside.bitset) _ (omega (arith, c.self.invariant.full, c.self.invariant.covers))
    (array_known c.self.invariant c.first_set.result c.if-is_some.ensures c.first_set.ensures))

pub returns-else-is_some : goal.returns-else-is_some
returns-else-is_some g c =
    c.size-else-is_some.ensures ∙ size_agrees g.B.BitsetTrait.CAPACITY (g.B.BitsetTrait.has c.scanned_bitset.result)
    c.args.self.now (omega (arith, ap length c.self.view_is, c.self.invariant.full, c.self.invariant.covers))
    c.scanned_bitset.ensures.agrees
