use Rattle.std.proofs.Common.{arith, rules, of_calls, List, sym, ap, subst, refl}
use Rattle.std.specs.List.{FoldsTo}
use Rattle.rart_nodes.specs.walks.Shown.{Folded}
use Rattle.rart_trie.specs.walks.Walk.{entry_values}
use Rattle.rart_nodes.proofs.walks.CallLemmas.{always-after-folds}
use Rattle.rart_trie.proofs.edits.CallbackLemmas.{can-first, can-rest}
use Rattle.rart_nodes.proofs.node.calls.fold.fold_values.Goals as goal

pub f-state-requires : goal.f-state-requires
f-state-requires g c = can-first _ _ _ _ _ _ (ap entry_values c.in-Some.ensures.entries) c.loop-value.invariant.callable
    _
    refl

pub loop-value-preserved : goal.loop-value-preserved
loop-value-preserved g c =
    let e = ap entry_values c.in-Some.ensures.entries in
    let v : Folded g.F.FnMut (c.loop-value.f, c.loop-value.state) c.in-Some.value.now
    (c.f-state.new.self, c.f-state.result) = record {
      shown = c.in-Some.value;
      shows = refl;
      called
          = search (rules, of_calls);
    } in
    record {
      callable = can-rest _ _ _ _ _ _ _ e v c.loop-value.invariant.callable;
      path = c.in-Some.ensures.path;
      reserved = c.in-Some.ensures.reserved;
      folds = λ last h. c.loop-value.invariant.folds last
          (subst (λ (x : List g.row.V.Denot). FoldsTo (λ p x q. Folded g.F.FnMut p x q)
          (c.loop-value.f, c.loop-value.state) x last) (sym e) ((c.f-state.new.self, c.f-state.result), v, h));
      visits = omega (arith, c.loop-value.invariant.visits, c.in-Some.ensures.visits);
    }

pub returns-clause-stays_callable : goal.returns-clause-stays_callable
returns-clause-stays_callable g c =
    let e = ap entry_values c.in_default.ensures.entries.0 in
    always-after-folds g.F.FnMut _ _ _ _ _ (c.loop-value.invariant.folds (c.loop-value.f, c.loop-value.state)
    (subst (λ (x : List g.row.V.Denot). FoldsTo (λ p x q. Folded g.F.FnMut p x q)
    (c.loop-value.f, c.loop-value.state) x (c.loop-value.f, c.loop-value.state)) (sym e) refl))
