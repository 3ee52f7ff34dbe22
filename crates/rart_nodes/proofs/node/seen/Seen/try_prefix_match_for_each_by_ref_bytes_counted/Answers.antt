use Rattle.std.proofs.Common.{arith, rules, of_calls, ◌≡◌, ◌+◌, List, ℕ, take, subst, sym, ap, refl, Ok, Err}
use Rattle.std.proofs.Common.{Some, None}
use Rattle.std.specs.Option.{option_copied}
use Rattle.rart_nodes.specs.declared.node.control.VisitControl.TheVariants.{Continue, Stop}
use Rattle.rart_nodes.specs.walks.TriedMatches.{CanTryMatch, EndsMatches, EndsMatchesAt, MatchedAs}
use Rattle.rart_trie.proofs.tries.CanonicalTests.{IsCanonicalTree-test}
use Rattle.rart_nodes.proofs.walks.MatchLemmas.{entered-ahead, entered-to, few-entered, matches-ahead}
use Rattle.rart_nodes.proofs.walks.MatchLemmas.{moved-past, not-moved, past-next}
use Rattle.rart_nodes.proofs.walks.TriedMatchLemmas.{always-after-tried-matches, matched-first}
use Rattle.rart_nodes.proofs.walks.TriedViewLemmas.{ends-first}
use Rattle.rart_trie.proofs.edits.CallbackLemmas.{can-first, can-rest}
use Rattle.rart_nodes.proofs.node.seen.Seen.try_prefix_match_for_each_by_ref_bytes_counted.Goals as goal

pub loop-value-init : goal.loop-value-init
loop-value-init g c = record {
  callable = subst (λ (x : List (List ℕ × g.row.V.Denot)). CanTryMatch g.F.FnMut c.args.f.now x)
      (sym (matches-ahead c.args.probe.now _ _ (option_copied c.args.self.root) c.matching-matching.ensures.depth
      c.matching-matching.ensures.below (IsCanonicalTree-test _ c.args.self.canonical))) c.requires.callable;
  within = omega (arith, c.matching-matching.ensures.depth);
  ends = λ r last h. subst (λ (x : List (List ℕ × g.row.V.Denot)). EndsMatches g.F.FnMut c.args.f.now x r last)
      (matches-ahead c.args.probe.now _ _ (option_copied c.args.self.root) c.matching-matching.ensures.depth
      c.matching-matching.ensures.below (IsCanonicalTree-test _ c.args.self.canonical)) h;
  ends_at = λ r last end h. subst (λ (x : List (List ℕ × g.row.V.Denot)). EndsMatchesAt g.F.FnMut c.args.f.now x r last
      end) (matches-ahead c.args.probe.now _ _ (option_copied c.args.self.root) c.matching-matching.ensures.depth
      c.matching-matching.ensures.below (IsCanonicalTree-test _ c.args.self.canonical)) h;
  descends = rw (c.matching-matching.ensures.depth, c.matching-matching.ensures.below) not-moved;
  visits = ap (λ n. g.C.Count.number c.args.counter.now + n)
      (entered-ahead c.args.probe.now _ _ (option_copied c.args.self.root) c.matching-matching.ensures.depth
      c.matching-matching.ensures.below);
}

pub f-requires : goal.f-requires
f-requires g c = can-first _ _ _ _ _ _ c.in-Some.ensures.pairs c.loop-value.invariant.callable _ _ c.probe_start.ensures
    refl

pub loop-value-preserved : goal.loop-value-preserved
loop-value-preserved g c =
    let e = c.in-Some.ensures.pairs in
    let on : c.f.result ≡ Ok Continue = rw (c.in-Ok-Continue.is, c.in-Ok-Continue.field-0-is) refl in
    let v : MatchedAs g.F.FnMut c.loop-value.f (take c.advance.new.self.depth c.args.probe.now, c.in-Some.value.now)
    (Ok Continue) c.f.new.self = record {
      key = c.probe_start.result;
      shown = c.in-Some.value;
      key_is = c.probe_start.ensures;
      shows = refl;
      called = rw (← on) (search (rules, of_calls));
    } in
    record {
      callable = can-rest _ _ _ _ _ _ _ e v c.loop-value.invariant.callable;
      within = c.in-Some.ensures.at_most;
      ends = λ r last h. c.loop-value.invariant.ends r last (ends-first _ _ _ _ _ (Ok Continue) _ r last e v h);
      ends_at = λ r last end h. c.loop-value.invariant.ends_at r last end
          (matched-first _ _ _ _ _ (Ok Continue) _ r last end e v h);
      descends = moved-past (past-next c.loop-value.invariant.descends c.in-Some.ensures.past);
      visits = omega (arith, c.in-Some.ensures.visits, c.loop-value.invariant.visits);
    }

pub returns-in-Ok-Stop-clause-calls : goal.returns-in-Ok-Stop-clause-calls
returns-in-Ok-Stop-clause-calls g c =
    let on : c.f.result ≡ Ok Stop = rw (c.in-Ok-Stop.is, c.in-Ok-Stop.field-0-is) refl in
    let v : MatchedAs g.F.FnMut c.loop-value.f (take c.advance.new.self.depth c.args.probe.now, c.in-Some.value.now)
    (Ok Stop) c.f.new.self = record {
      key = c.probe_start.result;
      shown = c.in-Some.value;
      key_is = c.probe_start.ensures;
      shows = refl;
      called = rw (← on) (search (rules, of_calls));
    } in
    c.loop-value.invariant.ends _ _ (ends-first _ _ _ _ _ (Ok Stop) _ _ _ c.in-Some.ensures.pairs v (refl, refl))

pub returns-in-Err-clause-calls : goal.returns-in-Err-clause-calls
returns-in-Err-clause-calls g c =
    let on : c.f.result ≡ Err c.in-Err.error = c.in-Err.is in
    let v : MatchedAs g.F.FnMut c.loop-value.f (take c.advance.new.self.depth c.args.probe.now, c.in-Some.value.now)
    (Err c.in-Err.error) c.f.new.self = record {
      key = c.probe_start.result;
      shown = c.in-Some.value;
      key_is = c.probe_start.ensures;
      shows = refl;
      called = rw (← on) (search (rules, of_calls));
    } in
    c.loop-value.invariant.ends _ _ (ends-first _ _ _ _ _ (Err c.in-Err.error) _ _ _ c.in-Some.ensures.pairs v
    (refl, refl))

pub returns-in-Ok-Stop-clause-by_key : goal.returns-in-Ok-Stop-clause-by_key
returns-in-Ok-Stop-clause-by_key g c =
    let on : c.f.result ≡ Ok Stop = rw (c.in-Ok-Stop.is, c.in-Ok-Stop.field-0-is) refl in
    let v : MatchedAs g.F.FnMut c.loop-value.f (take c.advance.new.self.depth c.args.probe.now, c.in-Some.value.now)
    (Ok Stop) c.f.new.self = record {
      key = c.probe_start.result;
      shown = c.in-Some.value;
      key_is = c.probe_start.ensures;
      shows = refl;
      called = rw (← on) (search (rules, of_calls));
    } in (
      Some (take c.advance.new.self.depth c.args.probe.now),
      (
        c.loop-value.invariant.ends_at _ _ _
            (matched-first _ _ _ _ _ (Ok Stop) _ _ _ _ c.in-Some.ensures.pairs v (refl, (refl, refl))),
        entered-to (IsCanonicalTree-test _ c.args.self.canonical)
            (past-next c.loop-value.invariant.descends c.in-Some.ensures.past),
      ),
    )

pub returns-in-Err-clause-by_key : goal.returns-in-Err-clause-by_key
returns-in-Err-clause-by_key g c =
    let on : c.f.result ≡ Err c.in-Err.error = c.in-Err.is in
    let v : MatchedAs g.F.FnMut c.loop-value.f (take c.advance.new.self.depth c.args.probe.now, c.in-Some.value.now)
    (Err c.in-Err.error) c.f.new.self = record {
      key = c.probe_start.result;
      shown = c.in-Some.value;
      key_is = c.probe_start.ensures;
      shows = refl;
      called = rw (← on) (search (rules, of_calls));
    } in (
      Some (take c.advance.new.self.depth c.args.probe.now),
      (
        c.loop-value.invariant.ends_at _ _ _
            (matched-first _ _ _ _ _ (Err c.in-Err.error) _ _ _ _ c.in-Some.ensures.pairs v (refl, (refl, refl))),
        entered-to (IsCanonicalTree-test _ c.args.self.canonical)
            (past-next c.loop-value.invariant.descends c.in-Some.ensures.past),
      ),
    )

pub returns-in-Ok-Stop-clause-stays_callable : goal.returns-in-Ok-Stop-clause-stays_callable
returns-in-Ok-Stop-clause-stays_callable g c = always-after-tried-matches g.F.FnMut _ _ _ _
    (returns-in-Ok-Stop-clause-calls g c)

pub returns-in-Err-clause-stays_callable : goal.returns-in-Err-clause-stays_callable
returns-in-Err-clause-stays_callable g c = always-after-tried-matches g.F.FnMut _ _ _ _
    (returns-in-Err-clause-calls g c)

pub returns-in-Ok-Stop-clause-visits : goal.returns-in-Ok-Stop-clause-visits
returns-in-Ok-Stop-clause-visits g c =
    (few-entered c.args.probe.now _ (option_copied c.args.self.root) _ _ _ _
    (IsCanonicalTree-test _ c.args.self.canonical) c.in-Some.ensures.visits c.loop-value.invariant.visits).0

pub returns-in-Ok-Stop-clause-bound : goal.returns-in-Ok-Stop-clause-bound
returns-in-Ok-Stop-clause-bound g c =
    (few-entered c.args.probe.now _ (option_copied c.args.self.root) _ _ _ _
    (IsCanonicalTree-test _ c.args.self.canonical) c.in-Some.ensures.visits c.loop-value.invariant.visits).1

pub returns-in-Err-clause-visits : goal.returns-in-Err-clause-visits
returns-in-Err-clause-visits g c =
    (few-entered c.args.probe.now _ (option_copied c.args.self.root) _ _ _ _
    (IsCanonicalTree-test _ c.args.self.canonical) c.in-Some.ensures.visits c.loop-value.invariant.visits).0

pub returns-in-Err-clause-bound : goal.returns-in-Err-clause-bound
returns-in-Err-clause-bound g c =
    (few-entered c.args.probe.now _ (option_copied c.args.self.root) _ _ _ _
    (IsCanonicalTree-test _ c.args.self.canonical) c.in-Some.ensures.visits c.loop-value.invariant.visits).1

pub returns-clause-calls : goal.returns-clause-calls
returns-clause-calls g c =
    let e = c.in_default.ensures.pairs.0 in
    c.loop-value.invariant.ends _ _ (subst (λ (x : List (List ℕ × g.row.V.Denot)). EndsMatches g.F.FnMut c.loop-value.f
    x (Ok tt) c.loop-value.f) (sym e) (refl, refl))

pub returns-clause-stays_callable : goal.returns-clause-stays_callable
returns-clause-stays_callable g c = always-after-tried-matches g.F.FnMut _ _ _ _ (returns-clause-calls g c)

pub returns-clause-visits : goal.returns-clause-visits
returns-clause-visits g c =
    (few-entered c.args.probe.now _ (option_copied c.args.self.root) _ _ _ _
    (IsCanonicalTree-test _ c.args.self.canonical) c.in_default.ensures.visits c.loop-value.invariant.visits).0

pub returns-clause-bound : goal.returns-clause-bound
returns-clause-bound g c =
    (few-entered c.args.probe.now _ (option_copied c.args.self.root) _ _ _ _
    (IsCanonicalTree-test _ c.args.self.canonical) c.in_default.ensures.visits c.loop-value.invariant.visits).1

pub returns-clause-by_key : goal.returns-clause-by_key
returns-clause-by_key g c =
    let e = c.in_default.ensures.pairs.0 in (
      None,
      (
        c.loop-value.invariant.ends_at _ _ _ (subst (λ (x : List (List ℕ × g.row.V.Denot)). EndsMatchesAt g.F.FnMut
            c.loop-value.f x (Ok tt) c.loop-value.f None) (sym e) (refl, (refl, refl))),
        tt,
      ),
    )
