use Rattle.std.proofs.Common.{arith}
use Rattle.rart_nodes.proofs.joins.AlignmentLemmas.{fewer-below, fewer-left}
use Rattle.rart_nodes.proofs.walks.PartLemmas.{counted-within}
use Rattle.rart_nodes.proofs.node.calls.count_pairs.+count_below.Goals as goal

pub loop-child-smaller : goal.loop-child-smaller
loop-child-smaller g t c = fewer-left _ _ _ _ c.in-Some.ensures.shown.1

pub count_below-count-requires : goal.count_below-count-requires
count_below-count-requires g t c κs within =
    let next = c.in-Some.ensures.shown.1 in
    let left = c.loop-child.invariant in (
      omega (arith, c.decreases, fewer-below c.args.node.node.now _ _ _ _ next left.within),
      (
        within.0,
        (
          within.1.0,
          (
            within.1.1,
            omega
                (arith, counted-within c.args.node.node.now _ _ _ _ _ _ left.count next c.requires),
          ),
        ),
      ),
    )

pub overflow_add-count : goal.overflow_add-count
overflow_add-count g t c = omega (
  arith,
  c.count_below-count.ensures.value,
  counted-within c.args.node.node.now _ _ _ _ _ _ c.loop-child.invariant.count c.in-Some.ensures.shown.1 c.requires,
)
