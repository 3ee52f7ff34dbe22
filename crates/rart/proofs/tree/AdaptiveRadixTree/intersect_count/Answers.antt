use Rattle.std.proofs.Common.{arith}
use Rattle.rart.proofs.tree.AdaptiveRadixTree.intersect_count.Goals as goal

pub returns : goal.returns
returns g c =
    let count = rw (c.seen.ensures.pairs, c.seen-2.ensures.pairs) at c.intersect_count_counted.ensures.count in
    omega (
      arith,
      count,
      c.joins.ensures.join_length c.args.self.now.pairs c.args.other.now.pairs,
      c.len.ensures.value,
      c.len.ensures.at_most,
    )
