use Rattle.std.proofs.Common.{arith, rules, of_calls, List, sym, ap, subst, refl}
use Rattle.rart_nodes.specs.walks.Shown.{Shown, ShowsEach}
use Rattle.rart_trie.specs.walks.Walk.{entry_values}
use Rattle.rart_nodes.proofs.walks.CallLemmas.{always-after-shows}
use Rattle.rart_trie.proofs.edits.CallbackLemmas.{can-first, can-rest}
use Rattle.rart_nodes.proofs.node.calls.visit.for_each_value.Goals as goal

pub f-requires : goal.f-requires
f-requires g c = can-first _ _ _ _ _ _ (ap entry_values c.in-Some.ensures.entries) c.loop-value.invariant.callable _
    refl

pub loop-value-preserved : goal.loop-value-preserved
loop-value-preserved g c =
    let e = ap entry_values c.in-Some.ensures.entries in
    let v : Shown g.F.FnMut c.loop-value.f c.in-Some.value.now c.f.new.self
    = record { shown = c.in-Some.value; shows = refl; called = search (rules, of_calls) } in
    record {
      callable = can-rest _ _ _ _ _ _ _ e v c.loop-value.invariant.callable;
      path = c.in-Some.ensures.path;
      reserved = c.in-Some.ensures.reserved;
      folds = λ last h. c.loop-value.invariant.folds last
          (subst (λ (x : List g.row.V.Denot). ShowsEach g.F.FnMut c.loop-value.f x last) (sym e) (c.f.new.self, v, h));
      visits = omega (arith, c.loop-value.invariant.visits, c.in-Some.ensures.visits);
    }

pub returns-clause-stays_callable : goal.returns-clause-stays_callable
returns-clause-stays_callable g c = always-after-shows _ _ _ _
    (c.loop-value.invariant.folds c.loop-value.f
    (subst (λ (x : List g.row.V.Denot). ShowsEach g.F.FnMut c.loop-value.f x c.loop-value.f)
    (sym (ap entry_values c.in_default.ensures.entries.0)) refl))
