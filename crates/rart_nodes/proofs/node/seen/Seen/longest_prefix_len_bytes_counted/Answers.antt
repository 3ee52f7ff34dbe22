use Rattle.std.proofs.Common.{◌≡◌, ◌+◌, ◌-◌, ◌++◌, ◌∙◌, List, [], ℕ, arith, ap, sym, refl, length, take, option_map}
use Rattle.std.proofs.Common.{None, Some}
use Rattle.std.specs.Prelude.{MatchOption, slice_get}
use Rattle.std.specs.Option.{option_copied}
use Rattle.rart_keys.specs.ByteStrings.{strip_prefix}
use Rattle.rart_keys.specs.Filters.{last_or}
use Rattle.rart_trie.specs.tries.Trie.{prefix_of, value_of}
use Rattle.rart_trie.proofs.tries.StepLemmas.{next-falls}
use Rattle.rart_trie.proofs.tries.CanonicalTests.{IsCanonicalTree-test}
use Rattle.rart_nodes.specs.walks.Matches.{Passes, pair_at}
use Rattle.rart_nodes.proofs.walks.MatchLemmas.{SplitAt, all-entered, entered-ahead, last-passed, matches-ahead}
use Rattle.rart_nodes.proofs.walks.MatchLemmas.{pass-ended, pass-none, pass-on, rest-fits, split-at}
use Rattle.rart_nodes.proofs.node.seen.Seen.longest_prefix_len_bytes_counted.Given.{Over}
use Rattle.rart_nodes.proofs.node.seen.Seen.longest_prefix_len_bytes_counted.Goals.{After-first, in-Some-value}
use Rattle.rart_nodes.proofs.node.seen.Seen.longest_prefix_len_bytes_counted.Goals.{in_default-value}
use Rattle.rart_nodes.proofs.node.seen.Seen.longest_prefix_len_bytes_counted.Goals as goal

pub loop-next-init : goal.loop-next-init
loop-next-init g c =
    let none : length c.args.probe.now - length c.args.probe.now ≡ 0 = omega arith in
    record {
      short = omega arith;
      ahead = rw (none) refl;
      found = tt;
      still = ap (last_or _) (matches-ahead c.args.probe.now _ _ (option_copied c.args.self.root) none
          c.top-next.ensures (IsCanonicalTree-test _ c.args.self.canonical));
      visits = ap (λ n. g.C.Count.number c.args.counter.now + n)
          (entered-ahead c.args.probe.now _ _ (option_copied c.args.self.root) none c.top-next.ensures);
    }

-- the node's prefix begins the rest
read : (g : Over) (c : After-first g) → Some c.in-Some-strip_prefix.after.now
    ≡ strip_prefix (prefix_of c.enter-at.result.node.now) c.loop-next.rest.now
read g c = rw c.prefix.ensures at c.in-Some-strip_prefix.ensures

split : (g : Over) (c : After-first g) → SplitAt (prefix_of c.enter-at.result.node.now) c.args.probe.now
    c.in-Some-strip_prefix.after.now (length c.args.probe.now - length c.loop-next.rest.now)
    (length c.args.probe.now - length c.in-Some-strip_prefix.after.now)
split g c = split-at _ c.args.probe.now c.loop-next.rest.now _ _ _ (omega arith) c.loop-next.invariant.ahead
    (read g c) refl

-- the last value so far is the node's, if it has one
last-now : (g : Over) (c : After-first g) (es : List (List ℕ × g.row.V.Denot))
    → last_or (option_map (λ p. (take p.0 c.args.probe.now, p.1.now)) c.match-value.last) es
    ≡ last_or (option_map (λ p. (take p.0 c.args.probe.now, p.1.now)) c.loop-next.last)
    (pair_at (take (length c.args.probe.now - length c.in-Some-strip_prefix.after.now) c.args.probe.now)
    (value_of c.enter-at.result.node.now) ++ es)
last-now g c es = last-passed _ _ _ (value_of c.enter-at.result.node.now) es (elim c.match-value.branch [
  | in-Some-value w ↦ rw (← w.in-Some-value.ensures)
      (ap (option_map (λ p. (take p.0 c.args.probe.now, p.1.now))) w.last-is)
  | in_default-value w ↦ rw (← w.in_default-value.ensures)
      (ap (option_map (λ p. (take p.0 c.args.probe.now, p.1.now))) w.last-is)
])

pub overflow_sub-last : goal.overflow_sub-last
overflow_sub-last g c = rest-fits _ c.args.probe.now _ _ (length c.args.probe.now - length c.loop-next.rest.now)
    c.loop-next.invariant.ahead (rw c.prefix.ensures at c.in-Some-strip_prefix.ensures)

ended : (g : Over) (c : After-first g) → None ≡ slice_get c.in-Some-strip_prefix.after.now 0
    → Passes c.args.probe.now (length c.args.probe.now - length c.loop-next.rest.now) c.enter-at.result.node.now
    (length c.args.probe.now - length c.in-Some-strip_prefix.after.now) None
ended g c e = pass-ended c.enter-at.result.node.now c.args.probe.now c.loop-next.rest.now
    c.in-Some-strip_prefix.after.now _ _ (omega arith) c.loop-next.invariant.ahead (read g c) refl e

pub loop-next-smaller : goal.loop-next-smaller
loop-next-smaller g c = next-falls _ _ _ _ _ _ c.in-Some.is c.enter-at.ensures.shown c.child-next.ensures

pub loop-next-preserved : goal.loop-next-preserved
loop-next-preserved g c =
    let a = (goal.at.loop-next-preserved g c).After-first in
    let s = split g a in
    let p = pass-on c.enter-at.result.node.now c.args.probe.now c.loop-next.rest.now c.in-Some-strip_prefix.after.now
    c.in-Some-first.byte.now _ _ _ c.enter-at.result.canonical (omega arith) c.loop-next.invariant.ahead (read g a) refl
    c.in-Some-first.ensures.value c.child-next.ensures in
    record {
      short = rest-fits _ c.args.probe.now _ _ (length c.args.probe.now - length c.loop-next.rest.now)
          c.loop-next.invariant.ahead (read g a);
      ahead = sym s.after;
      found = elim c.match-value.branch [
        | in-Some-value w ↦ rw (w.last-is) s.within
        | in_default-value w ↦ rw (w.last-is) c.loop-next.invariant.found
      ];
      still = last-now g a _ ∙ ap (last_or _) (sym p.still)
          ∙ rw (c.in-Some.is, ← c.enter-at.ensures.shown) at c.loop-next.invariant.still;
      visits = omega (
        arith,
        p.counted,
        c.enter-at.ensures.counted,
        rw (c.in-Some.is, ← c.enter-at.ensures.shown) at c.loop-next.invariant.visits,
      );
    }

pub returns-in_default-first-clause-pair : goal.returns-in_default-first-clause-pair
returns-in_default-first-clause-pair g c =
    let a = (goal.at.returns-in_default-first-clause-pair g c).After-first in
    let p = ended g a c.in_default-first.ensures.value in
    last-now g a [] ∙ ap (last_or _) (sym p.still)
    ∙ rw (c.in-Some.is, ← c.enter-at.ensures.shown) at c.loop-next.invariant.still

pub returns-in_default-first-clause-visits : goal.returns-in_default-first-clause-visits
returns-in_default-first-clause-visits g c =
    let p = ended g (goal.at.returns-in_default-first-clause-visits g c).After-first c.in_default-first.ensures.value in
    (all-entered c.args.probe.now (length c.args.probe.now - length c.in-Some-strip_prefix.after.now) None
    (option_copied c.args.self.root) _ _ _ (IsCanonicalTree-test _ c.args.self.canonical)
    refl (omega (
      arith,
      p.counted,
      c.enter-at.ensures.counted,
      rw (c.in-Some.is, ← c.enter-at.ensures.shown) at c.loop-next.invariant.visits,
    )) refl).0

pub returns-in_default-first-clause-bound : goal.returns-in_default-first-clause-bound
returns-in_default-first-clause-bound g c =
    let p = ended g (goal.at.returns-in_default-first-clause-bound g c).After-first c.in_default-first.ensures.value in
    (all-entered c.args.probe.now (length c.args.probe.now - length c.in-Some-strip_prefix.after.now) None
    (option_copied c.args.self.root) _ _ _ (IsCanonicalTree-test _ c.args.self.canonical)
    refl (omega (
      arith,
      p.counted,
      c.enter-at.ensures.counted,
      rw (c.in-Some.is, ← c.enter-at.ensures.shown) at c.loop-next.invariant.visits,
    )) refl).1

pub returns-in_default-strip_prefix-clause-visits : goal.returns-in_default-strip_prefix-clause-visits
returns-in_default-strip_prefix-clause-visits g c =
    let n = pass-none c.enter-at.result.node.now c.args.probe.now c.loop-next.rest.now _ c.loop-next.invariant.ahead
    (rw c.prefix.ensures at c.in_default-strip_prefix.ensures) in
    (all-entered c.args.probe.now 0 None (option_copied c.args.self.root) _ _ _
    (IsCanonicalTree-test _ c.args.self.canonical) refl (omega (
      arith,
      n,
      c.enter-at.ensures.counted,
      rw (c.in-Some.is, ← c.enter-at.ensures.shown) at c.loop-next.invariant.visits,
    )) refl).0

pub returns-in_default-strip_prefix-clause-bound : goal.returns-in_default-strip_prefix-clause-bound
returns-in_default-strip_prefix-clause-bound g c =
    let n = pass-none c.enter-at.result.node.now c.args.probe.now c.loop-next.rest.now _ c.loop-next.invariant.ahead
    (rw c.prefix.ensures at c.in_default-strip_prefix.ensures) in
    (all-entered c.args.probe.now 0 None (option_copied c.args.self.root) _ _ _
    (IsCanonicalTree-test _ c.args.self.canonical) refl (omega (
      arith,
      n,
      c.enter-at.ensures.counted,
      rw (c.in-Some.is, ← c.enter-at.ensures.shown) at c.loop-next.invariant.visits,
    )) refl).1

pub returns-clause-visits : goal.returns-clause-visits
returns-clause-visits g c = (all-entered c.args.probe.now _ _ (option_copied c.args.self.root) _ _ _
    (IsCanonicalTree-test _ c.args.self.canonical) (ap (option_map (λ s. s.node.now)) c.in_default.is)
    c.loop-next.invariant.visits refl).0

pub returns-clause-bound : goal.returns-clause-bound
returns-clause-bound g c = (all-entered c.args.probe.now _ _ (option_copied c.args.self.root) _ _ _
    (IsCanonicalTree-test _ c.args.self.canonical) (ap (option_map (λ s. s.node.now)) c.in_default.is)
    c.loop-next.invariant.visits refl).1
