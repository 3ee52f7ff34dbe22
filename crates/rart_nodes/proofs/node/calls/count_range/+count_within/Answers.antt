use Rattle.std.proofs.Common.{◌≡◌, ◌≤◌, ◌+◌, ◌*◌, ◌++◌, ℕ, Some, arith, ap, length, subst, sym, ◌∙◌}
use Rattle.rart_trie.specs.ranges.BoundCuts.{bound_past, path_count}
use Rattle.rart_trie.specs.ranges.LentBounds.{lent_bound}
use Rattle.rart_trie.specs.declared.node.ends.End.TheVariants.{First, Last}
use Rattle.rart_trie.specs.tries.Trie.{children_in, children_pairs, own_pair, pairs_of, prefix_of, value_of}
use Rattle.rart_trie.specs.tries.Trie.{AreCanonical}
use Rattle.rart_trie.specs.tries.TrieCode.{child_count, node_count}
use Rattle.rart_trie.proofs.tries.CanonicalTests.{IsCanonical-test}
use Rattle.rart_nodes.proofs.joins.AlignmentLemmas.{fewer-below, fewer-left}
use Rattle.rart_nodes.proofs.ranges.CountedBounds.{all-counted, count-append, count-few, count_in, counted, ended}
use Rattle.rart_nodes.proofs.ranges.CountedBounds.{few-children, fewer-pairs, inside, most_below, outside, outside-end}
use Rattle.rart_nodes.proofs.ranges.CountedBounds.{passed, rest-canonical, visits-inside, visits-outside}
use Rattle.rart_nodes.proofs.ranges.SkippedChildren.{after-alike}
use Rattle.rart_nodes.proofs.walks.PartLemmas.{few-count}
use Rattle.rart_nodes.proofs.walks.PathLemmas.{after-part}
use Rattle.rart_nodes.proofs.node.calls.count_range.+count_within.Given.{Over}
use Rattle.rart_nodes.proofs.node.calls.count_range.+count_within.Goals.{In-Some-after_prefix}
use Rattle.rart_nodes.proofs.node.calls.count_range.+count_within.Goals as goal

-- without a bound all are counted
pub returns-then-not-has_bounds-clause-value : goal.returns-then-not-has_bounds-clause-value
returns-then-not-has_bounds-clause-value g t c = c.count_below.ensures.value
    ∙ sym (all-counted (lent_bound c.args.start) (lent_bound c.args.end) (pairs_of c.args.at.node.now)
    (sym c.has_bounds.ensures ∙ c.if-not-has_bounds.true))

pub returns-then-not-has_bounds-clause-visits : goal.returns-then-not-has_bounds-clause-visits
returns-then-not-has_bounds-clause-visits g t c = omega (
  arith,
  c.count_below.ensures.visits,
  few-count c.args.at.node.now (IsCanonical-test c.args.at.node.now c.args.at.canonical),
  all-counted (lent_bound c.args.start) (lent_bound c.args.end) (pairs_of c.args.at.node.now)
      (sym c.has_bounds.ensures ∙ c.if-not-has_bounds.true),
)

-- the node is past one of the bounds
pub returns-in_default-clause-value : goal.returns-in_default-clause-value
returns-in_default-clause-value g t c = sym (outside (lent_bound c.args.start) (lent_bound c.args.end)
    c.args.at.node.now (ap (λ z. bound_past First z (lent_bound c.args.start)) (sym c.prefix.ensures)
    ∙ sym c.in_default.ensures))

pub returns-in_default-clause-visits : goal.returns-in_default-clause-visits
returns-in_default-clause-visits g t c = omega (
  arith,
  visits-outside (lent_bound c.args.start) (lent_bound c.args.end) c.args.at.node.now
      (sym c.has_bounds.ensures ∙ c.if-not-has_bounds.false),
)

pub returns-in_default-after_prefix-clause-value : goal.returns-in_default-after_prefix-clause-value
returns-in_default-after_prefix-clause-value g t c = sym (outside-end (lent_bound c.args.start)
    (lent_bound c.args.end) c.args.at.node.now
    (ap (λ z. bound_past Last z (lent_bound c.args.end)) (sym c.prefix-2.ensures)
    ∙ sym c.in_default-after_prefix.ensures))

pub returns-in_default-after_prefix-clause-visits : goal.returns-in_default-after_prefix-clause-visits
returns-in_default-after_prefix-clause-visits g t c = omega (
  arith,
  visits-outside (lent_bound c.args.start) (lent_bound c.args.end) c.args.at.node.now
      (sym c.has_bounds.ensures ∙ c.if-not-has_bounds.false),
)

-- what the bounds are after the node's prefix
start-past : (g : Over) (t : ℕ) (c : In-Some-after_prefix g t)
    → bound_past First (prefix_of c.args.at.node.now) (lent_bound c.args.start) ≡ Some (lent_bound c.in-Some.low)
start-past g t c = ap (λ z. bound_past First z (lent_bound c.args.start)) (sym c.prefix.ensures) ∙ sym c.in-Some.ensures

end-past : (g : Over) (t : ℕ) (c : In-Some-after_prefix g t)
    → bound_past Last (prefix_of c.args.at.node.now) (lent_bound c.args.end)
    ≡ Some (lent_bound c.in-Some-after_prefix.high)
end-past g t c = ap (λ z. bound_past Last z (lent_bound c.args.end)) (sym c.prefix-2.ensures)
    ∙ sym c.in-Some-after_prefix.ensures

-- its own pair and those of its children are counted by these
own-count : (g : Over) (t : ℕ) (c : In-Some-after_prefix g t)
    → count_in (Some (lent_bound c.args.start)) (Some (lent_bound c.args.end)) (pairs_of c.args.at.node.now)
    ≡ count_in (Some (lent_bound c.in-Some.low)) (Some (lent_bound c.in-Some-after_prefix.high))
    (own_pair (value_of c.args.at.node.now) ++ children_pairs (children_in c.args.at.node.now))
own-count g t c = inside _ _ _ _ c.args.at.node.now (start-past g t c) (end-past g t c)

own-visits : (g : Over) (t : ℕ) (c : In-Some-after_prefix g t)
    → 1 + most_below (lent_bound c.in-Some.low) (lent_bound c.in-Some-after_prefix.high)
    (children_in c.args.at.node.now)
    ≤ path_count (lent_bound c.args.start) c.args.at.node.now + path_count (lent_bound c.args.end) c.args.at.node.now
    + 2 * count_in (Some (lent_bound c.args.start)) (Some (lent_bound c.args.end)) (pairs_of c.args.at.node.now)
own-visits g t c = visits-inside _ _ _ _ c.args.at.node.now (sym c.has_bounds.ensures ∙ c.if-not-has_bounds.false)
    c.args.at.canonical (start-past g t c) (end-past g t c)

-- the children from the start on
pub loop-byte-init : goal.loop-byte-init
loop-byte-init g t c =
    let low = lent_bound c.in-Some.low in
    let high = lent_bound c.in-Some-after_prefix.high in
    let from = c.branches_after-rest.ensures in
    let w = after-alike low high c.byte_below.result c.args.at.node.now c.args.at.canonical
    (sym c.byte_below.ensures) in
    record {
      count = omega (
        arith,
        w.count,
        ap (λ z. count_in (Some low) (Some high) (children_pairs z)) from,
        c.count_own-count.ensures,
        count-append (Some low) (Some high) (own_pair (value_of c.args.at.node.now))
            (children_pairs (children_in c.args.at.node.now)),
      );
      visits = omega (arith, w.visits, ap (most_below low high) from);
      pairs = omega (arith, w.pairs, ap (λ z. length (children_pairs z)) from);
      within = omega (arith, w.within, ap child_count from);
      canonical = subst (AreCanonical 0) (sym from)
          (after-part c.byte_below.result c.args.at.node.now c.args.at.canonical).0;
    }

-- a child before the start
pub loop-byte-preserved-in_default-at_child : goal.loop-byte-preserved-in_default-at_child
loop-byte-preserved-in_default-at_child g t c =
    let w = c.loop-byte.invariant in
    let e = c.in-Some-next_child.ensures in
    let p = passed (lent_bound c.in-Some.low) (lent_bound c.in-Some-after_prefix.high) _ _ _ _ e w.canonical
    c.in_default-at_child.ensures in
    record {
      count = omega (arith, w.count, p.0);
      visits = omega (arith, w.visits, p.1);
      pairs = omega (arith, w.pairs, fewer-pairs _ _ _ _ e);
      within = omega (arith, w.within, fewer-left _ _ _ _ e);
      canonical = rest-canonical _ _ _ _ e w.canonical;
    }

-- a child past the end
pub returns-in_default-at_child-2-clause-value : goal.returns-in_default-at_child-2-clause-value
returns-in_default-at_child-2-clause-value g t c = omega (
  arith,
  c.loop-byte.invariant.count,
  ended (lent_bound c.in-Some.low) (lent_bound c.in-Some-after_prefix.high) _ _ _ _ c.in-Some-next_child.ensures
      c.loop-byte.invariant.canonical c.in_default-at_child-2.ensures,
  own-count g t (goal.at.returns-in_default-at_child-2-clause-value g t c).In-Some-after_prefix,
)

pub returns-in_default-at_child-2-clause-visits : goal.returns-in_default-at_child-2-clause-visits
returns-in_default-at_child-2-clause-visits g t c = omega (
  arith,
  c.loop-byte.invariant.visits,
  own-visits g t (goal.at.returns-in_default-at_child-2-clause-visits g t c).In-Some-after_prefix,
)

-- a child that is counted
pub count_within-count-requires : goal.count_within-count-requires
count_within-count-requires g t c κs within =
    let next = c.in-Some-next_child.ensures in
    let left = c.loop-byte.invariant in (
      omega (
        arith,
        c.decreases,
        fewer-below c.args.at.node.now _ _ _ _ next left.within,
        ap node_count c.enter.ensures.shown,
      ),
      (
        within.0,
        (
          within.1.0,
          (
            within.1.1,
            omega (
              arith,
              ap (λ z. length (pairs_of z)) c.enter.ensures.shown,
              fewer-pairs _ _ _ _ next,
              left.pairs,
              few-children c.args.at.node.now,
              c.requires,
            ),
          ),
        ),
      ),
    )

pub overflow_add-count : goal.overflow_add-count
overflow_add-count g t c =
    let given = rw c.enter.ensures.shown at c.count_within-count.ensures.value in
    let p = counted (lent_bound c.in-Some.low) (lent_bound c.in-Some-after_prefix.high)
    (lent_bound c.in-Some-at_child.child_low) (lent_bound c.in-Some-at_child-2.child_high) _ _ _ _
    c.in-Some-next_child.ensures c.loop-byte.invariant.canonical c.in-Some-at_child.ensures
    c.in-Some-at_child-2.ensures in
    omega (
      arith,
      given,
      p.0,
      c.loop-byte.invariant.count,
      own-count g t (goal.at.overflow_add-count g t c).In-Some-after_prefix,
      count-few (Some (lent_bound c.args.start)) (Some (lent_bound c.args.end)) (pairs_of c.args.at.node.now),
      c.requires,
    )

pub loop-byte-preserved : goal.loop-byte-preserved
loop-byte-preserved g t c =
    let w = c.loop-byte.invariant in
    let e = c.in-Some-next_child.ensures in
    let given = rw c.enter.ensures.shown at c.count_within-count.ensures.value in
    let visited = rw c.enter.ensures.shown at c.count_within-count.ensures.visits in
    let p = counted (lent_bound c.in-Some.low) (lent_bound c.in-Some-after_prefix.high)
    (lent_bound c.in-Some-at_child.child_low) (lent_bound c.in-Some-at_child-2.child_high) _ _ _ _ e w.canonical
    c.in-Some-at_child.ensures c.in-Some-at_child-2.ensures in
    record {
      count = omega (arith, w.count, p.0, given);
      visits = omega (arith, w.visits, p.1, visited, c.enter.ensures.counted);
      pairs = omega (arith, w.pairs, fewer-pairs _ _ _ _ e);
      within = omega (arith, w.within, fewer-left _ _ _ _ e);
      canonical = rest-canonical _ _ _ _ e w.canonical;
    }

-- no child is left
pub returns-clause-value : goal.returns-clause-value
returns-clause-value g t c = omega (
  arith,
  c.loop-byte.invariant.count,
  ap (λ z. count_in (Some (lent_bound c.in-Some.low)) (Some (lent_bound c.in-Some-after_prefix.high))
      (children_pairs z)) c.in_default-next_child.ensures.0,
  own-count g t (goal.at.returns-clause-value g t c).In-Some-after_prefix,
)

pub returns-clause-visits : goal.returns-clause-visits
returns-clause-visits g t c = omega (
  arith,
  c.loop-byte.invariant.visits,
  own-visits g t (goal.at.returns-clause-visits g t c).In-Some-after_prefix,
)
