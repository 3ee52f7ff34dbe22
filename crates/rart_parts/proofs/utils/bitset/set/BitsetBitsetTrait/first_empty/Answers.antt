use Rattle.std.proofs.Common.{not, rules}
use Rattle.rart_parts.proofs.sets.Words.{below_more, first_found}
use Rattle.rart_parts.proofs.utils.bitset.set.BitsetBitsetTrait.first_empty.Goals as goal

pub returns-in-Some : goal.returns-in-Some
returns-in-Some g c = rw c.WIDTH.ensures
    (first_found g.W.BitsetWord.WIDTH g.W.BitsetWord.number g.met.W.BitsetWord.wide c.args.self.now.words g.row.S
    c.loop-i.i c.index-self-i.result (search rules) c.loop-i-test.true c.index-self-i.is not c.in-Some.at
    c.loop-i.invariant (rw (← c.index-self-i.is) at c.in-Some.ensures))

pub loop-i-preserved : goal.loop-i-preserved
loop-i-preserved g c = below_more g.W.BitsetWord.WIDTH g.W.BitsetWord.number g.met.W.BitsetWord.wide
    c.args.self.now.words g.row.S c.loop-i.i c.index-self-i.result (search rules) c.loop-i-test.true c.index-self-i.is
    not c.loop-i.invariant (rw (← c.index-self-i.is) at c.in_default.ensures)
