use Rattle.std.proofs.Common.{◌-◌, ◌/◌, rules, arith}
use Rattle.rart_parts.proofs.sets.Words.{above_more, last_found, row_before}
use Rattle.rart_parts.proofs.utils.bitset.set.Bitset.last_under.Goals as goal

pub returns-in-Some : goal.returns-in-Some
returns-in-Some g c =
    let width = g.W.BitsetWord.WIDTH in
    let end = c.loop-end.end in
    let row = row_before end g.row.S width c.WIDTH.result c.WIDTH.ensures g.met.W.BitsetWord.wide (omega arith)
    (omega arith) in
    rw c.WIDTH-in-loop-end.ensures
    (last_found width g.W.BitsetWord.number g.met.W.BitsetWord.wide c.args.self.now.words g.row.S
    ((end - 1) / c.WIDTH.result) c.index-self-i.result (search rules) row.0 c.index-self-i.is end c.args.above
    (omega (arith, row.1)) row.2 c.loop-end.invariant.none c.loop-end.invariant.within c.in-Some.at
    (rw (← c.index-self-i.is, c.WIDTH-in-loop-end.ensures) at c.in-Some.ensures))

pub loop-end-preserved : goal.loop-end-preserved
loop-end-preserved g c =
    let width = g.W.BitsetWord.WIDTH in
    let end = c.loop-end.end in
    let row = row_before end g.row.S width c.WIDTH.result c.WIDTH.ensures g.met.W.BitsetWord.wide (omega arith)
    (omega arith) in
    rw c.WIDTH-in-loop-end.ensures record {
      within = omega (arith, row.1, c.loop-end.invariant.within);
      none = above_more width g.W.BitsetWord.number g.met.W.BitsetWord.wide c.args.self.now.words g.row.S
          ((end - 1) / c.WIDTH.result) c.index-self-i.result (search rules) row.0 c.index-self-i.is end c.args.above
          (omega (arith, row.1)) row.2 c.loop-end.invariant.none
          (rw (← c.index-self-i.is, c.WIDTH-in-loop-end.ensures) at c.in_default.ensures);
    }
