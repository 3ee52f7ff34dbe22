use Rattle.std.proofs.Common.{arith, rules, ◌≡◌, ◌≤◌, ◌<◌, ◌+◌, ◌^◌, ◌∙◌, List, length, ap, sym, subst, refl}
use Rattle.std.specs.Option.{option_copied}
use Rattle.rart_keys.specs.Ranges.{bound_bytes, is_inclusive}
use Rattle.rart_keys.specs.SortedMap.{keys_of}
use Rattle.rart_trie.specs.ranges.LentBounds.{lent_bound}
use Rattle.rart_nodes.specs.ranges.Spans.{cut_between, span_visits}
use Rattle.rart_trie.specs.ranges.Starts.{entries_from, entries_to}
use Rattle.rart_trie.specs.stats.Stats.{height}
use Rattle.rart_trie.specs.tries.Tree.{tree_pairs}
use Rattle.rart_trie.specs.walks.ProbeCount.{probe_count}
use Rattle.rart_trie.specs.walks.Walk.{SegmentList, tree_entries}
use Rattle.rart_nodes.specs.walks.PathParts.{one_segment}
use Rattle.rart_nodes.specs.walks.ViewSegments.{AreViews, views_ahead}
use Rattle.rart_nodes.specs.walks.Viewed.{CanView, ViewsEach}
use Rattle.rart_nodes.proofs.ranges.RangeCuts.{cut-length, from_bound-views, none-visited, range-cut}
use Rattle.rart_trie.proofs.tries.CanonicalTests.{IsCanonicalTree-test}
use Rattle.rart_nodes.proofs.walks.EntryLemmas.{joins-one}
use Rattle.rart_nodes.proofs.node.seen.Seen.for_each_range_view_by_ref_bytes_counted.Given.{Over}
use Rattle.rart_nodes.proofs.node.seen.Seen.for_each_range_view_by_ref_bytes_counted.Goals.{In_ok-walk}
use Rattle.rart_nodes.proofs.node.seen.Seen.for_each_range_view_by_ref_bytes_counted.Goals as goal

pub walk_from-requires : goal.walk_from-requires
walk_from-requires g c κs = ((refl, tt), joins-one)

pub for_each_view_to-requires-clause-views : goal.for_each_view_to-requires-clause-views
for_each_view_to-requires-clause-views g c =
    let n : c.args.self.longest < 2 ^ 64 = search rules in
    subst AreViews (sym c.in_ok-walk.ensures.entries)
    (from_bound-views c.args.self.longest c.bytes_of-included.result.1 c.bytes_of-included.result.0.now
    (option_copied c.args.self.root) (IsCanonicalTree-test _ c.args.self.canonical) c.args.self.short n)

-- the remaining entries are those after the start, and of these the walk gives those before the end
given : (g : Over) (c : In_ok-walk g) → entries_to (lent_bound c.args.end)
    (views_ahead c.in_ok-walk.path.segments.items c.in_ok-walk.walk.first c.in_ok-walk.walk.levels.items)
    ≡ cut_between (lent_bound c.args.start) (lent_bound c.args.end)
    (tree_pairs (option_copied c.args.self.root))
given g c =
    let a = lent_bound c.args.start in
    let b = lent_bound c.args.end in
    let o = option_copied c.args.self.root in
    let ahead : views_ahead c.in_ok-walk.path.segments.items c.in_ok-walk.walk.first c.in_ok-walk.walk.levels.items
    ≡ entries_from (is_inclusive a) (bound_bytes a) (tree_entries one_segment o)
    = rw (← c.bytes_of-included.ensures.bytes, ← c.bytes_of-included.ensures.inclusive)
    c.in_ok-walk.ensures.entries in
    ap (entries_to b) ahead ∙ range-cut a b o (IsCanonicalTree-test _ c.args.self.canonical)

pub for_each_view_to-requires-clause-callable : goal.for_each_view_to-requires-clause-callable
for_each_view_to-requires-clause-callable g c =
    let at = given g (goal.at.for_each_view_to-requires-clause-callable g c).In_ok-walk in
    subst (λ (w : List (SegmentList × g.row.V.Denot)). CanView g.F.FnMut c.args.f.now w) (sym at) c.requires.callable

pub returns-clause-calls : goal.returns-clause-calls
returns-clause-calls g c =
    let at = given g (goal.at.returns-clause-calls g c).In_ok-walk in
    subst (λ (w : List (SegmentList × g.row.V.Denot)). ViewsEach g.F.FnMut c.args.f.now w c.for_each_view_to.new.f) at
    c.for_each_view_to.ensures.calls

pub returns-clause-visits : goal.returns-clause-visits
returns-clause-visits g c =
    let a = lent_bound c.args.start in
    let b = lent_bound c.args.end in
    let es = tree_pairs (option_copied c.args.self.root) in
    omega (
      arith,
      c.for_each_view_to.ensures.visits (height (keys_of es)) c.in_ok-walk.ensures.low,
      c.in_ok-walk.ensures.visits,
      ap (probe_count (keys_of es)) c.bytes_of-included.ensures.bytes,
      ap length (given g (goal.at.returns-clause-visits g c).In_ok-walk),
      cut-length a b es,
    )

pub returns-clause-bound : goal.returns-clause-bound
returns-clause-bound g c =
    let a = lent_bound c.args.start in
    let b = lent_bound c.args.end in
    let es = tree_pairs (option_copied c.args.self.root) in
    omega (
      arith,
      c.for_each_view_to.ensures.visits (height (keys_of es)) c.in_ok-walk.ensures.low,
      c.in_ok-walk.ensures.bound,
      ap length c.bytes_of-included.ensures.bytes,
      ap length (given g (goal.at.returns-clause-bound g c).In_ok-walk),
      cut-length a b es,
    )

pub returns-clause-no_visits : goal.returns-clause-no_visits
returns-clause-no_visits g c =
    let a = lent_bound c.args.start in
    let b = lent_bound c.args.end in
    let es = tree_pairs (option_copied c.args.self.root) in
    let visits : g.C.Count.number c.for_each_view_to.new.counter ≤ g.C.Count.number c.args.counter.now
    + span_visits a b es = returns-clause-visits g c in
    none-visited _ _ a b es visits
