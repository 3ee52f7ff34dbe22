use Rattle.std.proofs.Common.{arith, rules, of_calls, ◌≡◌, [], ◌∷◌, List, length, sym, ap, subst, refl, ◌∙◌}
use Rattle.std.specs.Option.{option_copied}
use Rattle.rart_trie.specs.ranges.Starts.{entries_to}
use Rattle.rart_trie.specs.walks.Walk.{SegmentList, entries_ahead}
use Rattle.rart_trie.specs.ranges.LentBounds.{lent_bound}
use Rattle.rart_nodes.specs.walks.PathParts.{lent_segments, one_segment}
use Rattle.rart_nodes.specs.walks.ViewSegments.{AreViews}
use Rattle.rart_nodes.specs.walks.Viewed.{Viewed, ViewsEach}
use Rattle.rart_nodes.proofs.ranges.RangeCuts.{stop-past, stop-within}
use Rattle.rart_nodes.proofs.walks.CallLemmas.{always-after-views}
use Rattle.rart_trie.proofs.edits.CallbackLemmas.{can-first, can-rest}
use Rattle.rart_nodes.proofs.node.calls.range_views.for_each_view_to.Given.{Over}
use Rattle.rart_nodes.proofs.node.calls.range_views.for_each_view_to.Goals.{Else-not-is_up_to, Then-not-is_up_to}
use Rattle.rart_nodes.proofs.node.calls.range_views.for_each_view_to.Goals as goal

-- the first key past the end
past : (g : Over) (c : Then-not-is_up_to g) → entries_to (lent_bound c.args.end)
    (entries_ahead one_segment (lent_segments c.loop-value.path.segments.items)
    (option_copied c.loop-value.walk.first) c.loop-value.walk.levels.items) ≡ []
past g c = stop-past _ _ _ _ _ _ c.in-Some.ensures.entries (c.of-view.ensures ∙ ap lent_segments c.segments.ensures)
    (sym c.is_up_to.ensures ∙ c.if-not-is_up_to.true)

pub returns-then-not-is_up_to-clause-visits : goal.returns-then-not-is_up_to-clause-visits
returns-then-not-is_up_to-clause-visits g c = λ h w. omega (
  arith,
  c.loop-value.invariant.visits,
  ap length (past g (goal.at.returns-then-not-is_up_to-clause-visits g c).Then-not-is_up_to),
  c.in-Some.ensures.amortized.last h (c.loop-value.invariant.low h w),
)

pub returns-then-not-is_up_to-clause-stays_callable : goal.returns-then-not-is_up_to-clause-stays_callable
returns-then-not-is_up_to-clause-stays_callable g c =
    let over = past g (goal.at.returns-then-not-is_up_to-clause-stays_callable g c).Then-not-is_up_to in
    always-after-views g.F.FnMut _ _ _ (c.loop-value.invariant.folds c.loop-value.f
    (subst (λ (x : List (SegmentList × g.row.V.Denot)). ViewsEach g.F.FnMut c.loop-value.f x c.loop-value.f)
    (sym over) refl))

pub returns-clause-stays_callable : goal.returns-clause-stays_callable
returns-clause-stays_callable g c =
    let b = lent_bound c.args.end in
    let before = entries_ahead one_segment (lent_segments c.loop-value.path.segments.items)
    (option_copied c.loop-value.walk.first) c.loop-value.walk.levels.items in
    let past : entries_to b before ≡ [] = ap (entries_to b) c.in_default.ensures.entries.0 in
    always-after-views g.F.FnMut _ _ _ (c.loop-value.invariant.folds c.loop-value.f
    (subst (λ (x : List (SegmentList × g.row.V.Denot)). ViewsEach g.F.FnMut c.loop-value.f x c.loop-value.f)
    (sym past) refl))

-- a key within it
within : (g : Over) (c : Else-not-is_up_to g) → entries_to (lent_bound c.args.end)
    (entries_ahead one_segment (lent_segments c.loop-value.path.segments.items)
    (option_copied c.loop-value.walk.first) c.loop-value.walk.levels.items)
    ≡ (lent_segments c.advance.new.path.segments.items, c.in-Some.value.now)
    ∷ entries_to (lent_bound c.args.end)
    (entries_ahead one_segment (lent_segments c.advance.new.path.segments.items)
    (option_copied c.advance.new.self.first) c.advance.new.self.levels.items)
within g c = stop-within _ _ _ _ _ _ c.in-Some.ensures.entries (c.of-view.ensures
    ∙ ap lent_segments c.segments.ensures) (sym c.is_up_to.ensures ∙ c.if-not-is_up_to.false)

pub f-requires : goal.f-requires
f-requires g c = can-first _ _ _ _ _ _ (within g (goal.at.f-requires g c).Else-not-is_up_to)
    c.loop-value.invariant.callable _ _ (c.of-view.ensures ∙ ap lent_segments c.segments.ensures) refl

pub loop-value-preserved : goal.loop-value-preserved
loop-value-preserved g c =
    let on = within g (goal.at.loop-value-preserved g c).Else-not-is_up_to in
    let v : Viewed g.F.FnMut c.loop-value.f (lent_segments c.advance.new.path.segments.items, c.in-Some.value.now)
    c.f.new.self = record {
      key = c.of-view.result;
      shown = c.in-Some.value;
      key_is = c.of-view.ensures ∙ ap lent_segments c.segments.ensures;
      shows = refl;
      called = search (rules, of_calls);
    } in
    record {
      callable = can-rest _ _ _ _ _ _ _ on v c.loop-value.invariant.callable;
      path = c.in-Some.ensures.path;
      reserved = c.in-Some.ensures.reserved;
      views = (subst AreViews c.in-Some.ensures.entries c.loop-value.invariant.views).2;
      folds = λ last h. c.loop-value.invariant.folds last
          (subst (λ (x : List (SegmentList × g.row.V.Denot)). ViewsEach g.F.FnMut c.loop-value.f x last) (sym on)
          (c.f.new.self, v, h));
      visits = omega (arith, c.loop-value.invariant.visits, ap length on, c.in-Some.ensures.amortized.next);
      low = λ h z. c.in-Some.ensures.amortized.low h (c.loop-value.invariant.low h z);
    }
