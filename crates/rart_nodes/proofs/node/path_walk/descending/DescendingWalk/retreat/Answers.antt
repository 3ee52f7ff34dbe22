use Rattle.std.proofs.Common.{arith, sym, refl, ap, ◌∙◌, ◌++◌, reverse}
use Rattle.std.proofs.lemmas.List.{append-nil}
use Rattle.std.specs.Option.{option_copied}
use Rattle.rart_nodes.specs.ranges.DescendingWalk.{remaining_entries}
use Rattle.rart_trie.specs.walks.Walk.{value_at}
use Rattle.rart_nodes.proofs.ranges.DescendingVisits.{visit-none, visit-on, visit-one, visit-value}
use Rattle.rart_nodes.proofs.ranges.LevelLemmas.{leave, space, turn}
use Rattle.rart_nodes.proofs.node.path_walk.descending.DescendingWalk.retreat.Goals as goal

pub push_descending_level-requires : goal.push_descending_level-requires
push_descending_level-requires g c κs =
    let s = space _ _ _ _ c.in-Some.at.node.now _ _ c.loop-self.invariant.path c.in-Some.ensures.shown in (
      (refl, tt),
      (
        omega (arith, s.bytes, c.loop-self.invariant.reserved),
        omega
            (arith, s.place, c.enter_last_of_deepest.ensures.level_capacity, c.enter_last_of_deepest.new.levels.ok.0),
      ),
    )

pub loop-self-smaller-in-Some : goal.loop-self-smaller-in-Some
loop-self-smaller-in-Some g c =
    (turn _ _ _ _ _ _ _ c.in-Some.at.node.now _ _ _ g.T.Keeps.short c.loop-self.invariant.path c.in-Some.ensures.shown
    c.push_descending_level.ensures.kept c.push_descending_level.ensures.levels
    (c.push_descending_level.ensures.level_capacity ∙ c.enter_last_of_deepest.ensures.level_capacity)).falls

pub loop-self-preserved-in-Some : goal.loop-self-preserved-in-Some
loop-self-preserved-in-Some g c =
    let t = turn _ _ _ _ _ _ _ c.in-Some.at.node.now _ _ _ g.T.Keeps.short c.loop-self.invariant.path
    c.in-Some.ensures.shown c.push_descending_level.ensures.kept c.push_descending_level.ensures.levels
    (c.push_descending_level.ensures.level_capacity ∙ c.enter_last_of_deepest.ensures.level_capacity) in
    record {
      path = t.path;
      reserved = omega (arith, c.loop-self.invariant.reserved, c.push_descending_level.ensures.path_capacity);
      requested = c.push_descending_level.ensures.requested ∙ c.loop-self.invariant.requested;
      still = t.still ∙ c.loop-self.invariant.still;
      longest = c.loop-self.invariant.longest;
      bound = λ bytes. visit-on _ _ c.in-Some.at.node.now _ _ _ c.in-Some.at.canonical
          c.push_descending_level.ensures.levels
          (visit-one g.T.Keeps.grown c.in-Some.at.node.now bytes c.loop-self.invariant.path
          (c.loop-self.invariant.bound bytes) c.in-Some.ensures.shown c.push_descending_level.ensures.kept
          c.in-Some.ensures.counted);
    }

pub returns-in-Some-value-clause-path : goal.returns-in-Some-value-clause-path
returns-in-Some-value-clause-path g c =
    (leave g.T.Keeps.grown _ _ _ (g.T.Path.kept c.loop-self.path) _ _ _ _ c.take_last-below.result
    c.loop-self.invariant.path c.in-None.ensures.shown c.take_last-below.ensures.items c.cut.ensures.kept
    (c.take_last-below.ensures.capacity ∙ c.enter_last_of_deepest.ensures.level_capacity)).path

pub returns-in-Some-value-clause-entries : goal.returns-in-Some-value-clause-entries
returns-in-Some-value-clause-entries g c =
    let t = leave g.T.Keeps.grown _ _ _ (g.T.Path.kept c.loop-self.path) _ _ _ _ c.take_last-below.result
    c.loop-self.invariant.path c.in-None.ensures.shown c.take_last-below.ensures.items c.cut.ensures.kept
    (c.take_last-below.ensures.capacity ∙ c.enter_last_of_deepest.ensures.level_capacity) in
    let k1 = g.T.Path.kept c.cut.new.self in
    sym c.loop-self.invariant.still ∙ t.still
    ∙ ap (λ v. remaining_entries g.T.Keeps.grown k1 (reverse c.take_last-below.new.self.items)
    ++ value_at k1 (option_copied v)) c.in-Some-value.is

pub returns-in-Some-value-clause-bound : goal.returns-in-Some-value-clause-bound
returns-in-Some-value-clause-bound g c = λ bytes.
    visit-value _ _ _ _ _ c.take_last-below.result _ _ _ (c.loop-self.invariant.bound bytes) c.in-None.ensures.shown
    c.take_last-below.ensures.items c.cut.ensures.kept c.in-None.ensures.counted

pub loop-self-smaller : goal.loop-self-smaller
loop-self-smaller g c =
    (leave g.T.Keeps.grown _ _ _ (g.T.Path.kept c.loop-self.path) _ _ _ _ c.take_last-below.result
    c.loop-self.invariant.path c.in-None.ensures.shown c.take_last-below.ensures.items c.cut.ensures.kept
    (c.take_last-below.ensures.capacity ∙ c.enter_last_of_deepest.ensures.level_capacity)).falls

pub loop-self-preserved : goal.loop-self-preserved
loop-self-preserved g c =
    let t = leave g.T.Keeps.grown _ _ _ (g.T.Path.kept c.loop-self.path) _ _ _ _ c.take_last-below.result
    c.loop-self.invariant.path c.in-None.ensures.shown c.take_last-below.ensures.items c.cut.ensures.kept
    (c.take_last-below.ensures.capacity ∙ c.enter_last_of_deepest.ensures.level_capacity) in
    let k1 = g.T.Path.kept c.cut.new.self in
    let rest = remaining_entries g.T.Keeps.grown k1 (reverse c.take_last-below.new.self.items) in
    record {
      path = t.path;
      reserved = omega (arith, c.loop-self.invariant.reserved, c.cut.ensures.capacity);
      requested = c.cut.ensures.requested ∙ c.loop-self.invariant.requested;
      still = sym (append-nil rest) ∙ sym (t.still
          ∙ ap (λ v. rest ++ value_at k1 (option_copied v)) c.in_default.is) ∙ c.loop-self.invariant.still;
      longest = c.loop-self.invariant.longest;
      bound = λ bytes. visit-none _ _ _ _ _ c.take_last-below.result _ _ _ (c.loop-self.invariant.bound bytes)
          c.in-None.ensures.shown c.take_last-below.ensures.items (ap option_copied c.in_default.is)
          c.in-None.ensures.counted;
    }
