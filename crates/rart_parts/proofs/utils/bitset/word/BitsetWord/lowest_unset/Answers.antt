use Rattle.std.proofs.Common.{arith}
use Rattle.rart_parts.proofs.sets.WordBits.{bit_lowest_unset, all_ones}
use Rattle.rart_parts.proofs.utils.bitset.word.BitsetWord.lowest_unset.Goals as goal

pub returns-then-bits : goal.returns-then-bits
returns-then-bits g c k h = rw (← c.to_u64-bits.ensures.number_kept)
    (all_ones _ k c.if-bits.true (omega (arith, h, g.met.Self.BitsetWord.narrow)))

pub returns-then-at-WIDTH : goal.returns-then-at-WIDTH
returns-then-at-WIDTH g c =
    let l = bit_lowest_unset c.to_u64-bits.result (omega arith) in
    rw (← c.to_u64-bits.ensures.number_kept, c.trailing_ones-at.ensures)
    (rw (c.trailing_ones-at.ensures, c.WIDTH.ensures) at c.if-at-WIDTH.true, l.0, l.1)

pub returns-else-at-WIDTH : goal.returns-else-at-WIDTH
returns-else-at-WIDTH g c k h =
    let l = bit_lowest_unset c.to_u64-bits.result (omega arith) in
    rw (← c.to_u64-bits.ensures.number_kept) (l.1 k
    (omega (arith, h, c.WIDTH.ensures, c.trailing_ones-at.ensures, c.if-at-WIDTH.false)))
