use Rattle.std.proofs.Common.{◌<◌, ◌+◌, ◌-◌, ◌++◌, ◌∙◌, ap, arith, length, option_map, refl, sym, take}
use Rattle.std.specs.Option.{option_copied, option_or}
use Rattle.rart_trie.specs.walks.ProbeCount.{tree_entered}
use Rattle.rart_trie.specs.walks.Walk.{tree_count}
use Rattle.rart_trie.proofs.tries.CanonicalTests.{IsCanonicalTree-test}
use Rattle.rart_trie.proofs.tries.StepLemmas.{step-left, tree_entered-probe_count}
use Rattle.rart_nodes.specs.ranges.Nearest.{nearest_pair, place_pair}
use Rattle.rart_nodes.specs.tries.KeysAfter.{after_bytes}
use Rattle.rart_nodes.proofs.ranges.NearestLemmas.{seek-on, seek-past, seek-start, toward-child, toward-visits}
use Rattle.rart_nodes.proofs.walks.PathLemmas.{falls}
use Rattle.rart_nodes.proofs.node.seen.Seen.seek_nearest.Goals as goal

pub loop-next-init : goal.loop-next-init
loop-next-init g c = record {
  seeks = rw c.top-next.ensures (seek-start c.args.end c.args.included c.args.bound.now
      (option_copied c.args.self.root));
  depth = tt;
  below = tt;
  visits = ap (λ o. g.C.Count.number c.args.counter.now + tree_entered c.args.bound.now o) c.top-next.ensures;
}

pub returns-in_default-step_toward-clause-pair : goal.returns-in_default-step_toward-clause-pair
returns-in_default-step_toward-clause-pair g c = seek-past c.args.end c.args.included c.args.bound.now _
    c.loop-next.rest.now c.enter-at.result.node.now _
    (rw (c.in-Some.is, ← c.enter-at.ensures.shown) at c.loop-next.invariant.seeks) c.in_default-step_toward.ensures

pub returns-in_default-step_toward-clause-visits : goal.returns-in_default-step_toward-clause-visits
returns-in_default-step_toward-clause-visits g c = omega (
  arith,
  c.enter-at.ensures.counted,
  rw (c.in-Some.is, ← c.enter-at.ensures.shown) at c.loop-next.invariant.visits,
  (step-left c.enter-at.result.node.now c.loop-next.rest.now (sym c.in_default-step_toward.ensures.0)).1,
  tree_entered-probe_count c.args.bound.now (option_copied c.args.self.root)
      (IsCanonicalTree-test _ c.args.self.canonical),
)

pub loop-next-smaller : goal.loop-next-smaller
loop-next-smaller g c =
    let fall : tree_count (option_map (λ s. s.node.now) c.in-Some-step_toward.step.next)
    < tree_count (option_map (λ s. s.node.now) c.loop-next.next)
    = rw (c.in-Some.is, ← c.enter-at.ensures.shown) (falls c.enter-at.result.node.now _
    (toward-child c.args.end _ _ _ _ _ _ _ c.in-Some-step_toward.ensures)) in
    fall

pub loop-next-preserved : goal.loop-next-preserved
loop-next-preserved g c =
    let step = c.in-Some-step_toward.ensures in
    let depth = length c.args.bound.now - length c.loop-next.rest.now in
    record {
      seeks = seek-on c.args.end c.args.included c.args.bound.now _ c.loop-next.rest.now c.enter-at.result.node.now
          (nearest_pair c.args.end c.args.bound.now c.loop-next.found) _ _ _ _ depth
          (place_pair c.args.end c.place_beyond-place.result) _ c.enter-at.result.canonical
          (rw (c.in-Some.is, ← c.enter-at.ensures.shown) at c.loop-next.invariant.seeks) step refl
          c.place_beyond-place.ensures.pair (c.nearer-found.ensures.pair c.args.end c.args.bound.now
          ∙ ap (λ p. option_or (after_bytes (take depth c.args.bound.now ++ p)
          (place_pair c.args.end c.place_beyond-place.result))
          (nearest_pair c.args.end c.args.bound.now c.loop-next.found)) c.prefix.ensures);
      depth = c.nearer-found.ensures.depth (length c.args.bound.now) (omega arith) c.loop-next.invariant.depth;
      below = c.nearer-found.ensures.below c.place_beyond-place.ensures.below c.loop-next.invariant.below;
      visits = omega (
        arith,
        toward-visits c.args.end _ _ _ _ _ _ _ c.enter-at.result.canonical step,
        c.enter-at.ensures.counted,
        rw (c.in-Some.is, ← c.enter-at.ensures.shown) at c.loop-next.invariant.visits,
      );
    }

pub returns-clause-visits : goal.returns-clause-visits
returns-clause-visits g c = omega (
  arith,
  rw c.in_default.is at c.loop-next.invariant.visits,
  tree_entered-probe_count c.args.bound.now (option_copied c.args.self.root)
      (IsCanonicalTree-test _ c.args.self.canonical),
)
