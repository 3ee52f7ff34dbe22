use Rattle.std.proofs.Common.{◌<◌, ◌∙◌, arith, ap, option_map, refl}
use Rattle.std.specs.Option.{option_copied}
use Rattle.rart_trie.specs.walks.Walk.{tree_count}
use Rattle.rart_nodes.proofs.ranges.BoundDescents.{from-on, from-past, starts-from, step-child, step-visits}
use Rattle.rart_nodes.proofs.walks.PathLemmas.{falls, prefix-short}
use Rattle.rart_nodes.proofs.node.path_walk.ascending.Walk.descend.Goals as goal

pub loop-next-init : goal.loop-next-init
loop-next-init g c = record {
  descends = starts-from g.T.Keeps.grown c.args.included c.args.self.now.longest _ _ _ _ _ _
      c.args.top.canonical c.requires.empty_path (ap option_copied c.requires.first) c.requires.empty_walk
      c.requires.bounds_keys;
  reserved = c.requires.reserved;
  requested = refl;
  places = c.requires.places;
  visits = refl;
  longest = refl;
  level_capacity = refl;
}

pub push_level-requires : goal.push_level-requires
push_level-requires g c κs =
    let at = rw (c.in-Some.is, ← c.enter-at.ensures.shown) at c.loop-next.invariant.descends in
    let short = prefix-short c.enter-at.result.node.now c.enter-at.result.canonical in (
      (refl, tt),
      (
        omega (arith, at.fits.0, short, c.loop-next.invariant.reserved),
        omega (arith, at.fits.1, c.loop-next.invariant.places, c.loop-next.self.levels.ok.0),
      ),
    )

pub loop-next-smaller : goal.loop-next-smaller
loop-next-smaller g c =
    let fall : tree_count (option_map (λ s. s.node.now) c.in-Some-step_from.step.next)
    < tree_count (option_map (λ s. s.node.now) c.loop-next.next)
    = rw (c.in-Some.is, ← c.enter-at.ensures.shown)
    (falls c.enter-at.result.node.now _ (step-child _ _ _ _ _ _ _ c.in-Some-step_from.ensures)) in
    fall

pub loop-next-preserved : goal.loop-next-preserved
loop-next-preserved g c =
    let step = c.in-Some-step_from.ensures in
    record {
      descends = from-on g.T.Keeps.grown c.args.included c.loop-next.self.longest
          c.requires.joins g.T.Keeps.short c.enter-at.result.canonical c.loop-next.invariant.places
          (rw (c.in-Some.is, ← c.enter-at.ensures.shown) at c.loop-next.invariant.descends) step
          c.push_level.ensures.kept c.push_level.ensures.levels c.push_level.ensures.level_capacity;
      reserved = omega (arith, c.loop-next.invariant.reserved, c.push_level.ensures.path_capacity);
      requested = c.push_level.ensures.requested ∙ c.loop-next.invariant.requested;
      places = omega (arith, c.loop-next.invariant.places, c.push_level.ensures.level_capacity);
      visits = omega (
        arith,
        step-visits _ _ _ _ _ _ _ c.enter-at.result.canonical step,
        c.enter-at.ensures.counted,
        rw (c.in-Some.is, ← c.enter-at.ensures.shown) at c.loop-next.invariant.visits,
      );
      longest = c.loop-next.invariant.longest;
      level_capacity = c.push_level.ensures.level_capacity ∙ c.loop-next.invariant.level_capacity;
    }

pub returns-in_default-step_from-clause-entries : goal.returns-in_default-step_from-clause-entries
returns-in_default-step_from-clause-entries g c
    = from-past g.T.Keeps.grown c.args.included c.loop-next.self.longest c.requires.joins
    (rw (c.in-Some.is, ← c.enter-at.ensures.shown) at c.loop-next.invariant.descends) c.in_default-step_from.ensures
