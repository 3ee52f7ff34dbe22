use Rattle.std.proofs.Common.{arith, sym, refl, ◌∙◌, reverse, vec_capacity}
use Rattle.rart_nodes.proofs.ranges.PotentialLemmas.{potential-leave, potential-on, low-leave, low-on, amortized-first}
use Rattle.rart_nodes.proofs.ranges.PotentialLemmas.{amortized-given}
use Rattle.rart_nodes.proofs.walks.WalkLemmas.{Turn, leave, space, turn-either}
use Rattle.rart_nodes.proofs.walks.WalkVisits.{visit-one, visit-on, visit-none}
use Rattle.rart_nodes.proofs.node.path_walk.ascending.Walk.advance.Given.{Over}
use Rattle.rart_nodes.proofs.node.path_walk.ascending.Walk.advance.Goals.{After-extend_path}
use Rattle.rart_nodes.proofs.node.path_walk.ascending.Walk.advance.Goals as goal

pub returns-in-Some-clause-amortized : goal.returns-in-Some-clause-amortized
returns-in-Some-clause-amortized g c = amortized-first _ _

pub extend_path-requires : goal.extend_path-requires
extend_path-requires g c κs =
    let s = space _ _ _ _ c.in-Some-enter_deepest.at.node.now _ _ c.loop-self.invariant.path
    c.in-Some-enter_deepest.ensures.shown in (
      (refl, tt),
      (
        omega (arith, s.bytes, c.loop-self.invariant.reserved),
        omega
            (arith, s.place, c.enter_deepest.ensures.level_capacity, c.enter_deepest.new.levels.ok.0),
      ),
    )

turned : (g : Over) (c : After-extend_path g) → Turn g.T.Keeps.grown c.loop-self.self.longest
    (vec_capacity c.extend_path.new.levels) (g.T.Path.kept c.loop-self.path) (g.T.Path.kept c.extend_path.new.path)
    (reverse c.loop-self.self.levels.items) (reverse c.extend_path.new.levels.items) c.in-Some-enter_deepest.at.node.now
turned g c = turn-either _ _ _ _ _ _ _ c.in-Some-enter_deepest.at.node.now _ _ _ g.T.Keeps.short
    c.loop-self.invariant.path c.in-Some-enter_deepest.ensures.shown c.extend_path.ensures.kept
    c.extend_path.ensures.levels
    (c.extend_path.ensures.level_capacity ∙ c.enter_deepest.ensures.level_capacity)

pub returns-in-Some-extend_path-clause-path : goal.returns-in-Some-extend_path-clause-path
returns-in-Some-extend_path-clause-path g c
    = (turned g (goal.at.returns-in-Some-extend_path-clause-path g c).After-extend_path).path

pub returns-in-Some-extend_path-clause-entries : goal.returns-in-Some-extend_path-clause-entries
returns-in-Some-extend_path-clause-entries g c =
    let t = turned g (goal.at.returns-in-Some-extend_path-clause-entries g c).After-extend_path in
    rw (c.loop-self.invariant.first)
    (sym c.loop-self.invariant.still ∙ t.still ∙ rw (← c.in-Some-extend_path.ensures.value) refl)

pub returns-in-Some-extend_path-clause-visits : goal.returns-in-Some-extend_path-clause-visits
returns-in-Some-extend_path-clause-visits g c =
    let t = turned g (goal.at.returns-in-Some-extend_path-clause-visits g c).After-extend_path in
    omega (arith, t.counted, c.loop-self.invariant.visits, c.in-Some-enter_deepest.ensures.counted)

pub returns-in-Some-extend_path-clause-bound : goal.returns-in-Some-extend_path-clause-bound
returns-in-Some-extend_path-clause-bound g c = λ bytes.
    visit-one g.T.Keeps.grown c.in-Some-enter_deepest.at.node.now bytes c.loop-self.invariant.path
    (c.loop-self.invariant.bound bytes) c.in-Some-enter_deepest.ensures.shown c.extend_path.ensures.kept
    c.in-Some-enter_deepest.ensures.counted

pub returns-in-Some-extend_path-clause-amortized : goal.returns-in-Some-extend_path-clause-amortized
returns-in-Some-extend_path-clause-amortized g c =
    amortized-given _ _ _ _ _ c.in-Some-enter_deepest.at.node.now c.args.self.now.levels.items _ _ _
    c.in-Some-enter_deepest.ensures.shown c.extend_path.ensures.levels c.in-Some-enter_deepest.ensures.counted
    c.loop-self.invariant.potential c.loop-self.invariant.low

pub loop-self-preserved : goal.loop-self-preserved
loop-self-preserved g c =
    let t = turned g (goal.at.loop-self-preserved g c).After-extend_path in
    record {
      first = c.loop-self.invariant.first;
      path = t.path;
      reserved = omega (arith, c.loop-self.invariant.reserved, c.extend_path.ensures.path_capacity);
      requested = c.extend_path.ensures.requested ∙ c.loop-self.invariant.requested;
      still = sym (t.still ∙ rw (← c.in_default-extend_path.ensures.value) refl) ∙ c.loop-self.invariant.still;
      visits = omega (arith, t.counted, c.loop-self.invariant.visits, c.in-Some-enter_deepest.ensures.counted);
      longest = c.loop-self.invariant.longest;
      bound = λ bytes. visit-on _ _ c.in-Some-enter_deepest.at.node.now _ _ _ c.in-Some-enter_deepest.at.canonical
          c.in_default-extend_path.ensures.value c.extend_path.ensures.levels
          (visit-one g.T.Keeps.grown c.in-Some-enter_deepest.at.node.now bytes
          c.loop-self.invariant.path (c.loop-self.invariant.bound bytes) c.in-Some-enter_deepest.ensures.shown
          c.extend_path.ensures.kept c.in-Some-enter_deepest.ensures.counted);
      potential = potential-on _ _ _ _ _ _ c.in-Some-enter_deepest.at.node.now _ _ _
          c.in-Some-enter_deepest.at.canonical c.in_default-extend_path.ensures.value
          c.in-Some-enter_deepest.ensures.shown c.extend_path.ensures.levels c.in-Some-enter_deepest.ensures.counted
          c.loop-self.invariant.potential;
      low = λ h w. low-on h _ _ c.in-Some-enter_deepest.at.node.now _ _ _ c.in-Some-enter_deepest.ensures.shown
          c.extend_path.ensures.levels (c.loop-self.invariant.low h w);
    }

pub loop-self-smaller : goal.loop-self-smaller
loop-self-smaller g c = (turned g (goal.at.loop-self-smaller g c).After-extend_path).falls

pub loop-self-preserved-in-None : goal.loop-self-preserved-in-None
loop-self-preserved-in-None g c =
    let t = leave g.T.Keeps.grown _ _ _ (g.T.Path.kept c.loop-self.path) _ _ _ c.take_last.result
    c.loop-self.invariant.path c.in-None.ensures.shown c.take_last.ensures.items (c.take_last.ensures.capacity
    ∙ c.enter_deepest.ensures.level_capacity) in
    record {
      first = c.loop-self.invariant.first;
      path = t.path;
      reserved = c.loop-self.invariant.reserved;
      requested = c.loop-self.invariant.requested;
      still = sym t.still ∙ c.loop-self.invariant.still;
      visits = omega (arith, t.counted, c.loop-self.invariant.visits, c.in-None.ensures.counted);
      longest = c.loop-self.invariant.longest;
      bound = λ bytes. visit-none _ _ _ _ _ _ c.take_last.new.self.items (c.loop-self.invariant.bound bytes)
          c.in-None.ensures.shown c.in-None.ensures.counted;
      potential = potential-leave _ _ _ _ _ _ _ c.take_last.result c.in-None.ensures.shown c.take_last.ensures.items
          c.in-None.ensures.counted c.loop-self.invariant.potential;
      low = λ h w. low-leave h _ _ _ c.take_last.result c.in-None.ensures.shown c.take_last.ensures.items
          (c.loop-self.invariant.low h w);
    }

pub returns-in-Some-extend_path-clause-reserved : goal.returns-in-Some-extend_path-clause-reserved
returns-in-Some-extend_path-clause-reserved g c = omega
    (arith, c.loop-self.invariant.reserved, c.extend_path.ensures.path_capacity)

pub returns-in-Some-extend_path-clause-requested : goal.returns-in-Some-extend_path-clause-requested
returns-in-Some-extend_path-clause-requested g c = c.extend_path.ensures.requested ∙ c.loop-self.invariant.requested

pub returns-in-Some-extend_path-clause-longest : goal.returns-in-Some-extend_path-clause-longest
returns-in-Some-extend_path-clause-longest g c = c.loop-self.invariant.longest

pub returns-clause-path : goal.returns-clause-path
returns-clause-path g c = c.loop-self.invariant.path

pub returns-clause-reserved : goal.returns-clause-reserved
returns-clause-reserved g c = c.loop-self.invariant.reserved

pub returns-clause-requested : goal.returns-clause-requested
returns-clause-requested g c = c.loop-self.invariant.requested

pub returns-clause-longest : goal.returns-clause-longest
returns-clause-longest g c = c.loop-self.invariant.longest

pub returns-in-Some-clause-path : goal.returns-in-Some-clause-path
returns-in-Some-clause-path g c = c.requires.path

pub returns-in-Some-clause-reserved : goal.returns-in-Some-clause-reserved
returns-in-Some-clause-reserved g c = c.requires.reserved

pub returns-in-Some-clause-requested : goal.returns-in-Some-clause-requested
returns-in-Some-clause-requested g c = refl

pub returns-in-Some-clause-longest : goal.returns-in-Some-clause-longest
returns-in-Some-clause-longest g c = refl

pub returns-in-Some-clause-visits : goal.returns-in-Some-clause-visits
returns-in-Some-clause-visits g c = refl

pub returns-in-Some-clause-bound : goal.returns-in-Some-clause-bound
returns-in-Some-clause-bound g c = λ bytes. omega arith
