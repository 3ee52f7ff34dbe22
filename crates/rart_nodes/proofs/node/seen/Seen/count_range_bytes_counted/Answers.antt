use Rattle.std.proofs.Common.{arith, ap, length}
use Rattle.rart_keys.specs.Ranges.{between}
use Rattle.rart_trie.specs.ranges.LentBounds.{lent_bound}
use Rattle.rart_trie.specs.tries.Tree.{tree_pairs}
use Rattle.rart_nodes.proofs.ranges.CountedBounds.{path-probes}
use Rattle.rart_nodes.proofs.node.seen.Seen.count_range_bytes_counted.Goals as goal

pub returns-in-Some-clause-visits : goal.returns-in-Some-clause-visits
returns-in-Some-clause-visits g c =
    let a = lent_bound c.args.start in
    let b = lent_bound c.args.end in
    let t = c.in-Some.top.node.now in
    let visited = rw c.enter-node.ensures.shown at c.count_within.ensures.visits in
    let start = path-probes a t _ c.in-Some.top.canonical c.in-Some.ensures in
    let end = path-probes b t _ c.in-Some.top.canonical c.in-Some.ensures in
    omega (
      arith,
      c.enter-node.ensures.counted,
      visited,
      start.0,
      end.0,
      ap (λ o. length (between a b (tree_pairs o))) c.in-Some.ensures,
    )

pub returns-in-Some-clause-bound : goal.returns-in-Some-clause-bound
returns-in-Some-clause-bound g c =
    let a = lent_bound c.args.start in
    let b = lent_bound c.args.end in
    let t = c.in-Some.top.node.now in
    let visited = rw c.enter-node.ensures.shown at c.count_within.ensures.visits in
    let start = path-probes a t _ c.in-Some.top.canonical c.in-Some.ensures in
    let end = path-probes b t _ c.in-Some.top.canonical c.in-Some.ensures in
    omega (
      arith,
      c.enter-node.ensures.counted,
      visited,
      start.1,
      end.1,
      ap (λ o. length (between a b (tree_pairs o))) c.in-Some.ensures,
    )
