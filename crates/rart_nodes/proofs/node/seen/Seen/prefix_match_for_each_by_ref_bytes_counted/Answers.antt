use Rattle.std.proofs.Common.{arith, rules, of_calls, ◌+◌, List, ℕ, take, subst, sym, ap, refl}
use Rattle.std.specs.Option.{option_copied}
use Rattle.rart_nodes.specs.walks.Matched.{CanMatch, Matched, MatchesEach}
use Rattle.rart_trie.proofs.tries.CanonicalTests.{IsCanonicalTree-test}
use Rattle.rart_nodes.proofs.walks.MatchLemmas.{all-entered, entered-ahead, matches-ahead}
use Rattle.rart_nodes.proofs.walks.CallLemmas.{always-after-matches}
use Rattle.rart_trie.proofs.edits.CallbackLemmas.{can-first, can-rest}
use Rattle.rart_nodes.proofs.node.seen.Seen.prefix_match_for_each_by_ref_bytes_counted.Goals as goal

pub loop-value-init : goal.loop-value-init
loop-value-init g c = record {
  callable = subst (λ (x : List (List ℕ × g.row.V.Denot)). CanMatch g.F.FnMut c.args.f.now x)
      (sym (matches-ahead c.args.probe.now _ _ (option_copied c.args.self.root) c.matching-matching.ensures.depth
      c.matching-matching.ensures.below (IsCanonicalTree-test _ c.args.self.canonical))) c.requires.callable;
  within = omega (arith, c.matching-matching.ensures.depth);
  folds = λ last h. subst (λ (x : List (List ℕ × g.row.V.Denot)). MatchesEach g.F.FnMut c.args.f.now x last)
      (matches-ahead c.args.probe.now _ _ (option_copied c.args.self.root) c.matching-matching.ensures.depth
      c.matching-matching.ensures.below (IsCanonicalTree-test _ c.args.self.canonical)) h;
  visits = ap (λ n. g.C.Count.number c.args.counter.now + n)
      (entered-ahead c.args.probe.now _ _ (option_copied c.args.self.root) c.matching-matching.ensures.depth
      c.matching-matching.ensures.below);
}

pub loop-value-preserved : goal.loop-value-preserved
loop-value-preserved g c =
    let e = c.in-Some.ensures.pairs in
    let v : Matched g.F.FnMut c.loop-value.f (take c.advance.new.self.depth c.args.probe.now, c.in-Some.value.now)
    c.f.new.self = record {
      key = c.probe_start.result;
      shown = c.in-Some.value;
      key_is = c.probe_start.ensures;
      shows
          = refl;
      called = search (rules, of_calls);
    } in
    record {
      callable = can-rest _ _ _ _ _ _ _ e v c.loop-value.invariant.callable;
      within = c.in-Some.ensures.at_most;
      folds = λ last h. c.loop-value.invariant.folds last
          (subst (λ (x : List (List ℕ × g.row.V.Denot)). MatchesEach g.F.FnMut c.loop-value.f x last) (sym e)
          (c.f.new.self, v, h));
      visits = omega (arith, c.in-Some.ensures.visits, c.loop-value.invariant.visits);
    }

pub f-requires : goal.f-requires
f-requires g c = can-first _ _ _ _ _ _ c.in-Some.ensures.pairs c.loop-value.invariant.callable _ _ c.probe_start.ensures
    refl

pub returns-clause-stays_callable : goal.returns-clause-stays_callable
returns-clause-stays_callable g c =
    let e = c.in_default.ensures.pairs.0 in
    always-after-matches g.F.FnMut _ _ _ (c.loop-value.invariant.folds c.loop-value.f
    (subst (λ (x : List (List ℕ × g.row.V.Denot)). MatchesEach g.F.FnMut c.loop-value.f x c.loop-value.f) (sym e)
    refl))

pub returns-clause-visits : goal.returns-clause-visits
returns-clause-visits g c =
    (all-entered c.args.probe.now c.advance.new.self.depth _ (option_copied c.args.self.root)
    (g.C.Count.number c.advance.new.counter) (g.C.Count.number c.args.counter.now) _
    (IsCanonicalTree-test _ c.args.self.canonical) c.in_default.ensures.ended c.in_default.ensures.visits
    c.loop-value.invariant.visits).0

pub returns-clause-bound : goal.returns-clause-bound
returns-clause-bound g c =
    (all-entered c.args.probe.now c.advance.new.self.depth _ (option_copied c.args.self.root)
    (g.C.Count.number c.advance.new.counter) (g.C.Count.number c.args.counter.now) _
    (IsCanonicalTree-test _ c.args.self.canonical) c.in_default.ensures.ended c.in_default.ensures.visits
    c.loop-value.invariant.visits).1
