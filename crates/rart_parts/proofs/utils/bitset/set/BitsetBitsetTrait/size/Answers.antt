use Rattle.std.proofs.Common.{rules, arith}
use Rattle.rart_parts.proofs.sets.Words.{size_more, size_below}
use Rattle.rart_parts.proofs.utils.bitset.set.BitsetBitsetTrait.size.Goals as goal

pub overflow_add-size : goal.overflow_add-size
overflow_add-size g c =
    let more = size_more g.W.BitsetWord.WIDTH g.W.BitsetWord.number g.met.W.BitsetWord.wide c.args.self.now.words
    g.row.S c.loop-i.i c.index-self-i.result (search rules) c.loop-i-test.true c.index-self-i.is c.loop-i.size
    c.count-size.result c.loop-i.invariant (rw (← c.index-self-i.is) at c.count-size.ensures) in
    let below = size_below g.W.BitsetWord.WIDTH g.W.BitsetWord.number g.met.W.BitsetWord.wide c.args.self.now.words
    c.loop-i.i g.row.S c.loop-i-test.true in
    omega (arith, more, below, c.requires)

pub loop-i-preserved : goal.loop-i-preserved
loop-i-preserved g c = size_more g.W.BitsetWord.WIDTH g.W.BitsetWord.number g.met.W.BitsetWord.wide
    c.args.self.now.words g.row.S c.loop-i.i c.index-self-i.result (search rules) c.loop-i-test.true c.index-self-i.is
    c.loop-i.size c.count-size.result c.loop-i.invariant (rw (← c.index-self-i.is) at c.count-size.ensures)
