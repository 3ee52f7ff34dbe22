use Rattle.std.proofs.Common.{arith, rules, of_calls, List, sym, ap, subst, refl, ◌∙◌}
use Rattle.rart_trie.specs.walks.Walk.{SegmentList}
use Rattle.rart_nodes.specs.walks.PathParts.{lent_segments}
use Rattle.rart_nodes.specs.walks.ViewSegments.{AreViews}
use Rattle.rart_nodes.specs.walks.Viewed.{Viewed, ViewsEach}
use Rattle.rart_nodes.proofs.walks.CallLemmas.{always-after-views}
use Rattle.rart_trie.proofs.edits.CallbackLemmas.{can-first, can-rest}
use Rattle.rart_nodes.proofs.node.calls.lending.for_each_view_of.Goals as goal

pub f-requires : goal.f-requires
f-requires g c = can-first _ _ _ _ _ _ c.in-Some.ensures.entries c.loop-value.invariant.callable _ _ (c.of.ensures
    ∙ ap lent_segments c.segments.ensures) refl

pub loop-value-preserved : goal.loop-value-preserved
loop-value-preserved g c =
    let e = c.in-Some.ensures.entries in
    let v : Viewed g.F.FnMut c.loop-value.f (lent_segments c.advance.new.path.segments.items, c.in-Some.value.now)
    c.f.new.self = record {
      key = c.of.result;
      shown = c.in-Some.value;
      key_is = c.of.ensures
          ∙ ap lent_segments c.segments.ensures;
      shows = refl;
      called = search (rules, of_calls);
    } in
    record {
      callable = can-rest _ _ _ _ _ _ _ e v c.loop-value.invariant.callable;
      path = c.in-Some.ensures.path;
      reserved = c.in-Some.ensures.reserved;
      views = (subst AreViews e c.loop-value.invariant.views).2;
      folds = λ last h. c.loop-value.invariant.folds last
          (subst (λ (x : List (SegmentList × g.row.V.Denot)). ViewsEach g.F.FnMut c.loop-value.f x last) (sym e)
          (c.f.new.self, v, h));
      visits = omega (arith, c.loop-value.invariant.visits, c.in-Some.ensures.visits);
    }

pub returns-clause-stays_callable : goal.returns-clause-stays_callable
returns-clause-stays_callable g c =
    let e = c.in_default.ensures.entries.0 in
    always-after-views g.F.FnMut _ _ _ (c.loop-value.invariant.folds c.loop-value.f
    (subst (λ (x : List (SegmentList × g.row.V.Denot)). ViewsEach g.F.FnMut c.loop-value.f x c.loop-value.f) (sym e)
    refl))
