use Rattle.std.proofs.Common.{arith, rules, of_calls, ◌≡◌, ◌+◌, [], ◌∷◌, ap, subst, sym, refl, ◌∙◌, Ok, Err}
use Rattle.std.specs.Option.{option_copied}
use Rattle.rart_trie.specs.ranges.LentBounds.{lent_bound}
use Rattle.rart_nodes.specs.declared.node.control.VisitControl.TheVariants.{Continue, Stop}
use Rattle.rart_nodes.specs.walks.PathParts.{lent_segments, one_segment}
use Rattle.rart_nodes.specs.walks.TriedViews.{ViewedAs}
use Rattle.rart_nodes.specs.walks.ViewSegments.{AreViews}
use Rattle.rart_trie.specs.ranges.Starts.{entries_to}
use Rattle.rart_trie.specs.walks.Walk.{entries_ahead}
use Rattle.rart_trie.proofs.edits.CallbackLemmas.{can-first, can-rest}
use Rattle.rart_nodes.proofs.ranges.RangeCuts.{stop-past, stop-within}
use Rattle.rart_nodes.proofs.walks.TriedViewLemmas.{always-after-tried-views, counts-first, ends-first, equal-counts}
use Rattle.rart_nodes.proofs.node.calls.try_views.try_for_each_view_to.Given.{Over}
use Rattle.rart_nodes.proofs.node.calls.try_views.try_for_each_view_to.Goals.{Else-not-is_up_to, In_default}
use Rattle.rart_nodes.proofs.node.calls.try_views.try_for_each_view_to.Goals.{Then-not-is_up_to}
use Rattle.rart_nodes.proofs.node.calls.try_views.try_for_each_view_to.Goals as goal

pub loop-value-init : goal.loop-value-init
loop-value-init g c = record {
  callable = c.requires.callable;
  path = c.requires.path;
  reserved = c.requires.reserved;
  views = c.requires.views;
  ends = λ r last h. h;
  low = λ h w. w;
  counted = (0, ((λ n m r last e h. equal-counts _ _ _ n m r last (omega (arith, e)) h), omega arith));
  visits = omega arith;
}

-- the first key past the end
past : (g : Over) (c : Then-not-is_up_to g) → entries_to (lent_bound c.args.end)
    (entries_ahead one_segment (lent_segments c.loop-value.path.segments.items)
    (option_copied c.loop-value.walk.first) c.loop-value.walk.levels.items) ≡ []
past g c = stop-past _ _ _ _ _ _ c.in-Some.ensures.entries (c.of-view.ensures ∙ ap lent_segments c.segments.ensures)
    (sym c.is_up_to.ensures ∙ c.if-not-is_up_to.true)

-- a key within it
within : (g : Over) (c : Else-not-is_up_to g) → entries_to (lent_bound c.args.end)
    (entries_ahead one_segment (lent_segments c.loop-value.path.segments.items)
    (option_copied c.loop-value.walk.first) c.loop-value.walk.levels.items)
    ≡ (lent_segments c.advance.new.path.segments.items, c.in-Some.value.now)
    ∷ entries_to (lent_bound c.args.end)
    (entries_ahead one_segment (lent_segments c.advance.new.path.segments.items)
    (option_copied c.advance.new.self.first) c.advance.new.self.levels.items)
within g c = stop-within _ _ _ _ _ _ c.in-Some.ensures.entries (c.of-view.ensures
    ∙ ap lent_segments c.segments.ensures) (sym c.is_up_to.ensures ∙ c.if-not-is_up_to.false)

pub f-requires : goal.f-requires
f-requires g c = can-first _ _ _ _ _ _ (within g (goal.at.f-requires g c).Else-not-is_up_to)
    c.loop-value.invariant.callable _ _ (c.of-view.ensures ∙ ap lent_segments c.segments.ensures) refl

-- the walk ends at the first key past the end, or without a key
pub returns-then-not-is_up_to-clause-calls : goal.returns-then-not-is_up_to-clause-calls
returns-then-not-is_up_to-clause-calls g c =
    let over = past g (goal.at.returns-then-not-is_up_to-clause-calls g c).Then-not-is_up_to in
    c.loop-value.invariant.ends _ _ (rw over (refl, refl))

pub returns-then-not-is_up_to-clause-stays_callable : goal.returns-then-not-is_up_to-clause-stays_callable
returns-then-not-is_up_to-clause-stays_callable g c = always-after-tried-views g.F.FnMut _ _ _ _
    (returns-then-not-is_up_to-clause-calls g c)

pub returns-then-not-is_up_to-clause-by_calls : goal.returns-then-not-is_up_to-clause-by_calls
returns-then-not-is_up_to-clause-by_calls g c = λ h w.
    let over = past g (goal.at.returns-then-not-is_up_to-clause-by_calls g c).Then-not-is_up_to in
    let k = c.loop-value.invariant.counted in (
      k.0,
      (
        k.1.0 0 k.0 _ _ (omega arith) (rw over (refl, (refl, refl))),
        omega (arith, k.1.1, c.in-Some.ensures.amortized.last h (c.loop-value.invariant.low h w)),
      ),
    )

pub returns-clause-calls : goal.returns-clause-calls
returns-clause-calls g c =
    let b = lent_bound c.args.end in
    let over = ap (entries_to b) c.in_default.ensures.entries.0 in
    c.loop-value.invariant.ends _ _ (rw over (refl, refl))

pub returns-clause-stays_callable : goal.returns-clause-stays_callable
returns-clause-stays_callable g c = always-after-tried-views g.F.FnMut _ _ _ _ (returns-clause-calls g c)

pub returns-clause-by_calls : goal.returns-clause-by_calls
returns-clause-by_calls g c = λ h w.
    let b = lent_bound c.args.end in
    let over = ap (entries_to b) c.in_default.ensures.entries.0 in
    let k = c.loop-value.invariant.counted in (
      k.0,
      (
        k.1.0 0 k.0 _ _ (omega arith) (rw over (refl, (refl, refl))),
        omega (arith, k.1.1, c.in_default.ensures.amortized),
      ),
    )

pub loop-value-preserved : goal.loop-value-preserved
loop-value-preserved g c =
    let e = within g (goal.at.loop-value-preserved g c).Else-not-is_up_to in
    let k = c.loop-value.invariant.counted in
    let on : c.f.result ≡ Ok Continue = rw (c.in-Ok-Continue.is, c.in-Ok-Continue.field-0-is) refl in
    let v : ViewedAs g.F.FnMut c.loop-value.f (lent_segments c.advance.new.path.segments.items, c.in-Some.value.now)
    (Ok Continue) c.f.new.self = record {
      key = c.of-view.result;
      shown = c.in-Some.value;
      key_is = c.of-view.ensures ∙ ap lent_segments c.segments.ensures;
      shows = refl;
      called = rw (← on) (search (rules, of_calls));
    } in
    record {
      callable = can-rest _ _ _ _ _ _ _ e v c.loop-value.invariant.callable;
      path = c.in-Some.ensures.path;
      reserved = c.in-Some.ensures.reserved;
      views = (subst AreViews c.in-Some.ensures.entries c.loop-value.invariant.views).2;
      ends = λ r last h. c.loop-value.invariant.ends r last (ends-first _ _ _ _ _ (Ok Continue) _ r last e v h);
      low = λ h w. c.in-Some.ensures.amortized.low h (c.loop-value.invariant.low h w);
      counted = (
        k.0 + 1,
        (
          (λ n m r last i h. k.1.0 (1 + n) m r last (omega (arith, i))
              (counts-first _ _ _ _ _ (Ok Continue) _ (1 + n) r last e v (n, (refl, h)))),
          omega (arith, k.1.1, c.in-Some.ensures.amortized.next),
        ),
      );
      visits = omega (arith, c.loop-value.invariant.visits, c.in-Some.ensures.visits);
    }

pub returns-in-Ok-Stop-clause-calls : goal.returns-in-Ok-Stop-clause-calls
returns-in-Ok-Stop-clause-calls g c =
    let e = within g (goal.at.returns-in-Ok-Stop-clause-calls g c).Else-not-is_up_to in
    let k = c.loop-value.invariant.counted in
    let on : c.f.result ≡ Ok Stop = rw (c.in-Ok-Stop.is, c.in-Ok-Stop.field-0-is) refl in
    let v : ViewedAs g.F.FnMut c.loop-value.f (lent_segments c.advance.new.path.segments.items, c.in-Some.value.now)
    (Ok Stop) c.f.new.self = record {
      key = c.of-view.result;
      shown = c.in-Some.value;
      key_is = c.of-view.ensures ∙ ap lent_segments c.segments.ensures;
      shows = refl;
      called = rw (← on) (search (rules, of_calls));
    } in
    c.loop-value.invariant.ends _ _ (ends-first _ _ _ _ _ (Ok Stop) _ _ _ e v (refl, refl))

pub returns-in-Ok-Stop-clause-by_calls : goal.returns-in-Ok-Stop-clause-by_calls
returns-in-Ok-Stop-clause-by_calls g c = λ h w.
    let e = within g (goal.at.returns-in-Ok-Stop-clause-by_calls g c).Else-not-is_up_to in
    let k = c.loop-value.invariant.counted in
    let on : c.f.result ≡ Ok Stop = rw (c.in-Ok-Stop.is, c.in-Ok-Stop.field-0-is) refl in
    let v : ViewedAs g.F.FnMut c.loop-value.f (lent_segments c.advance.new.path.segments.items, c.in-Some.value.now)
    (Ok Stop) c.f.new.self = record {
      key = c.of-view.result;
      shown = c.in-Some.value;
      key_is = c.of-view.ensures ∙ ap lent_segments c.segments.ensures;
      shows = refl;
      called = rw (← on) (search (rules, of_calls));
    } in (
      k.0 + 1,
      (
        k.1.0 1 (k.0 + 1) _ _ (omega arith) (counts-first _ _ _ _ _ (Ok Stop) _ 1 _ _ e v (refl, (refl, refl))),
        omega (arith, k.1.1, c.in-Some.ensures.amortized.last h (c.loop-value.invariant.low h w)),
      ),
    )

pub returns-in-Ok-Stop-clause-stays_callable : goal.returns-in-Ok-Stop-clause-stays_callable
returns-in-Ok-Stop-clause-stays_callable g c = always-after-tried-views g.F.FnMut _ _ _ _
    (returns-in-Ok-Stop-clause-calls g c)

pub returns-in-Err-clause-calls : goal.returns-in-Err-clause-calls
returns-in-Err-clause-calls g c =
    let e = within g (goal.at.returns-in-Err-clause-calls g c).Else-not-is_up_to in
    let k = c.loop-value.invariant.counted in
    let on : c.f.result ≡ Err c.in-Err.error = c.in-Err.is in
    let v : ViewedAs g.F.FnMut c.loop-value.f (lent_segments c.advance.new.path.segments.items, c.in-Some.value.now)
    (Err c.in-Err.error) c.f.new.self = record {
      key = c.of-view.result;
      shown = c.in-Some.value;
      key_is = c.of-view.ensures ∙ ap lent_segments c.segments.ensures;
      shows = refl;
      called = rw (← on) (search (rules, of_calls));
    } in
    c.loop-value.invariant.ends _ _ (ends-first _ _ _ _ _ (Err c.in-Err.error) _ _ _ e v (refl, refl))

pub returns-in-Err-clause-by_calls : goal.returns-in-Err-clause-by_calls
returns-in-Err-clause-by_calls g c = λ h w.
    let e = within g (goal.at.returns-in-Err-clause-by_calls g c).Else-not-is_up_to in
    let k = c.loop-value.invariant.counted in
    let on : c.f.result ≡ Err c.in-Err.error = c.in-Err.is in
    let v : ViewedAs g.F.FnMut c.loop-value.f (lent_segments c.advance.new.path.segments.items, c.in-Some.value.now)
    (Err c.in-Err.error) c.f.new.self = record {
      key = c.of-view.result;
      shown = c.in-Some.value;
      key_is = c.of-view.ensures ∙ ap lent_segments c.segments.ensures;
      shows = refl;
      called = rw (← on) (search (rules, of_calls));
    } in (
      k.0 + 1,
      (
        k.1.0 1 (k.0 + 1) _ _ (omega arith)
            (counts-first _ _ _ _ _ (Err c.in-Err.error) _ 1 _ _ e v (refl, (refl, refl))),
        omega (arith, k.1.1, c.in-Some.ensures.amortized.last h (c.loop-value.invariant.low h w)),
      ),
    )

pub returns-in-Err-clause-stays_callable : goal.returns-in-Err-clause-stays_callable
returns-in-Err-clause-stays_callable g c = always-after-tried-views g.F.FnMut _ _ _ _
    (returns-in-Err-clause-calls g c)
