use Rattle.std.proofs.Common.{arith}
use Rattle.std.proofs.lemmas.Result.{on_ok_weaker}
use Rattle.rart_nodes.proofs.joins.JointVisits.{joined-both}
use Rattle.rart_trie.proofs.tries.CanonicalTests.{IsCanonicalTree-test}
use Rattle.rart_nodes.proofs.node.intersect.intersect_trees.Goals as goal

pub intersect_below-requires-clause-callable : goal.intersect_below-requires-clause-callable
intersect_below-requires-clause-callable g c =
    let both = joined-both _ _ _ _ (IsCanonicalTree-test _ c.args.left.canonical)
    (IsCanonicalTree-test _ c.args.right.canonical) c.requires.tops.0 c.requires.tops.1 in
    rw (both.pairs, ← c.enter_pair.ensures.left, ← c.enter_pair.ensures.right) at c.requires.callable

pub returns : goal.returns
returns g c =
    let both = joined-both _ _ _ _ (IsCanonicalTree-test _ c.args.left.canonical)
    (IsCanonicalTree-test _ c.args.right.canonical) c.requires.tops.0 c.requires.tops.1 in
    let below = rw (c.enter_pair.ensures.left, c.enter_pair.ensures.right) at c.intersect_below.ensures.visits in
    let most = rw (c.enter_pair.ensures.left, c.enter_pair.ensures.right) at c.intersect_below.ensures.bound in
    record {
      calls = rw (both.pairs, ← c.enter_pair.ensures.left, ← c.enter_pair.ensures.right)
          c.intersect_below.ensures.calls;
      visits = on_ok_weaker c.intersect_below.result (λ e. omega (arith, both.visits, e, c.enter_pair.ensures.counted))
          below;
      at_most = omega (arith, both.visits, most, c.enter_pair.ensures.counted);
      bound = omega (arith, both.few, most, c.enter_pair.ensures.counted);
    }
