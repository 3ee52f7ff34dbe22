use Rattle.std.proofs.Common.{arith, rules, ◌≡◌, ◌<◌, ◌^◌, ◌∙◌, List, ap, sym, subst, refl, Ok, Err}
use Rattle.std.specs.Option.{option_copied}
use Rattle.rart_keys.specs.Ranges.{bound_bytes, is_inclusive}
use Rattle.rart_keys.specs.SortedMap.{keys_of}
use Rattle.rart_trie.specs.ranges.LentBounds.{lent_bound}
use Rattle.rart_nodes.specs.ranges.Spans.{cut_between}
use Rattle.rart_trie.specs.ranges.Starts.{entries_from, entries_to}
use Rattle.rart_trie.specs.stats.Stats.{height}
use Rattle.rart_trie.specs.tries.Tree.{tree_pairs}
use Rattle.rart_trie.specs.walks.ProbeCount.{probe_count}
use Rattle.rart_trie.specs.walks.Walk.{SegmentList, tree_entries}
use Rattle.rart_nodes.specs.walks.PathParts.{one_segment}
use Rattle.rart_nodes.specs.walks.TriedViews.{EndsViews, EndsViewsAfter}
use Rattle.rart_nodes.specs.walks.ViewSegments.{AreViews, views_ahead}
use Rattle.rart_nodes.proofs.ranges.RangeCuts.{cut-length, from_bound-views, range-cut}
use Rattle.rart_trie.proofs.tries.CanonicalTests.{IsCanonicalTree-test}
use Rattle.rart_trie.proofs.tries.EndLemmas.{few-probes}
use Rattle.rart_nodes.proofs.walks.TriedViewLemmas.{few-calls}
use Rattle.rart_nodes.proofs.walks.EntryLemmas.{joins-one}
use Rattle.rart_nodes.proofs.node.seen.Seen.try_for_each_range_view_by_ref_bytes_counted.Given.{Over}
use Rattle.rart_nodes.proofs.node.seen.Seen.try_for_each_range_view_by_ref_bytes_counted.Goals.{In-Ok}
use Rattle.rart_nodes.proofs.node.seen.Seen.try_for_each_range_view_by_ref_bytes_counted.Goals as goal

pub walk_from-requires : goal.walk_from-requires
walk_from-requires g c κs = ((refl, tt), joins-one)

pub try_for_each_view_to-requires-clause-views : goal.try_for_each_view_to-requires-clause-views
try_for_each_view_to-requires-clause-views g c =
    let n : c.args.self.longest < 2 ^ 64 = search rules in
    subst AreViews (sym c.in-Ok.ensures.entries)
    (from_bound-views c.args.self.longest c.bytes_of-included.result.1 c.bytes_of-included.result.0.now
    (option_copied c.args.self.root) (IsCanonicalTree-test _ c.args.self.canonical) c.args.self.short n)

-- the remaining entries are those after the start, and of these the walk gives those before the end
given : (g : Over) (c : In-Ok g) → entries_to (lent_bound c.args.end)
    (views_ahead c.in-Ok.path.segments.items c.in-Ok.walk.first c.in-Ok.walk.levels.items)
    ≡ cut_between (lent_bound c.args.start) (lent_bound c.args.end)
    (tree_pairs (option_copied c.args.self.root))
given g c =
    let a = lent_bound c.args.start in
    let b = lent_bound c.args.end in
    let o = option_copied c.args.self.root in
    let ahead : views_ahead c.in-Ok.path.segments.items c.in-Ok.walk.first c.in-Ok.walk.levels.items
    ≡ entries_from (is_inclusive a) (bound_bytes a) (tree_entries one_segment o)
    = rw (← c.bytes_of-included.ensures.bytes, ← c.bytes_of-included.ensures.inclusive)
    c.in-Ok.ensures.entries in
    ap (entries_to b) ahead ∙ range-cut a b o (IsCanonicalTree-test _ c.args.self.canonical)

pub try_for_each_view_to-requires-clause-callable : goal.try_for_each_view_to-requires-clause-callable
try_for_each_view_to-requires-clause-callable g c =
    let at = given g (goal.at.try_for_each_view_to-requires-clause-callable g c).In-Ok in
    rw at c.requires.callable

pub returns-in-Ok-try_for_each_view_to-clause-calls : goal.returns-in-Ok-try_for_each_view_to-clause-calls
returns-in-Ok-try_for_each_view_to-clause-calls g c =
    let at = given g (goal.at.returns-in-Ok-try_for_each_view_to-clause-calls g c).In-Ok in
    subst (λ (w : List (SegmentList × g.row.V.Denot)). EndsViews g.F.FnMut c.args.f.now w (Ok tt)
    c.try_for_each_view_to.new.f) at c.in-Ok-try_for_each_view_to.ensures.calls

pub returns-in-Ok-try_for_each_view_to-clause-by_calls : goal.returns-in-Ok-try_for_each_view_to-clause-by_calls
returns-in-Ok-try_for_each_view_to-clause-by_calls g c =
    let at = given g (goal.at.returns-in-Ok-try_for_each_view_to-clause-by_calls g c).In-Ok in
    let es = tree_pairs (option_copied c.args.self.root) in
    let n = c.in-Ok-try_for_each_view_to.ensures.by_calls (height (keys_of es)) c.in-Ok.ensures.low in (
      n.0,
      (
        subst (λ (w : List (SegmentList × g.row.V.Denot)). EndsViewsAfter g.F.FnMut c.args.f.now w n.0 (Ok tt)
            c.try_for_each_view_to.new.f) at n.1.0,
        omega (
          arith,
          n.1.1,
          c.in-Ok.ensures.visits,
          ap (probe_count (keys_of es)) c.bytes_of-included.ensures.bytes,
        ),
      ),
    )

pub returns-clause-calls : goal.returns-clause-calls
returns-clause-calls g c =
    let at = given g (goal.at.returns-clause-calls g c).In-Ok in
    subst (λ (w : List (SegmentList × g.row.V.Denot)). EndsViews g.F.FnMut c.args.f.now w (Err c.in-Err.error)
    c.try_for_each_view_to.new.f) at c.in-Err.ensures.calls

pub returns-clause-by_calls : goal.returns-clause-by_calls
returns-clause-by_calls g c =
    let at = given g (goal.at.returns-clause-by_calls g c).In-Ok in
    let es = tree_pairs (option_copied c.args.self.root) in
    let n = c.in-Err.ensures.by_calls (height (keys_of es)) c.in-Ok.ensures.low in (
      n.0,
      (
        subst (λ (w : List (SegmentList × g.row.V.Denot)). EndsViewsAfter g.F.FnMut c.args.f.now w n.0
            (Err c.in-Err.error) c.try_for_each_view_to.new.f) at n.1.0,
        omega (
          arith,
          n.1.1,
          c.in-Ok.ensures.visits,
          ap (probe_count (keys_of es)) c.bytes_of-included.ensures.bytes,
        ),
      ),
    )

pub returns-in-Ok-try_for_each_view_to-clause-visits : goal.returns-in-Ok-try_for_each_view_to-clause-visits
returns-in-Ok-try_for_each_view_to-clause-visits g c =
    let a = lent_bound c.args.start in
    let b = lent_bound c.args.end in
    let es = tree_pairs (option_copied c.args.self.root) in
    let n = returns-in-Ok-try_for_each_view_to-clause-by_calls g c in
    omega (
      arith,
      n.1.1,
      few-calls _ _ _ n.0 _ _ n.1.0,
      cut-length a b es,
    )

pub returns-clause-visits : goal.returns-clause-visits
returns-clause-visits g c =
    let a = lent_bound c.args.start in
    let b = lent_bound c.args.end in
    let es = tree_pairs (option_copied c.args.self.root) in
    let n = returns-clause-by_calls g c in
    omega (
      arith,
      n.1.1,
      few-calls _ _ _ n.0 _ _ n.1.0,
      cut-length a b es,
    )

pub returns-in-Ok-try_for_each_view_to-clause-bound : goal.returns-in-Ok-try_for_each_view_to-clause-bound
returns-in-Ok-try_for_each_view_to-clause-bound g c =
    let a = lent_bound c.args.start in
    let b = lent_bound c.args.end in
    let es = tree_pairs (option_copied c.args.self.root) in
    let n = returns-in-Ok-try_for_each_view_to-clause-by_calls g c in
    omega (
      arith,
      n.1.1,
      few-calls _ _ _ n.0 _ _ n.1.0,
      cut-length a b es,
      few-probes (option_copied c.args.self.root) (bound_bytes a) (IsCanonicalTree-test _ c.args.self.canonical),
    )

pub returns-clause-bound : goal.returns-clause-bound
returns-clause-bound g c =
    let a = lent_bound c.args.start in
    let b = lent_bound c.args.end in
    let es = tree_pairs (option_copied c.args.self.root) in
    let n = returns-clause-by_calls g c in
    omega (
      arith,
      n.1.1,
      few-calls _ _ _ n.0 _ _ n.1.0,
      cut-length a b es,
      few-probes (option_copied c.args.self.root) (bound_bytes a) (IsCanonicalTree-test _ c.args.self.canonical),
    )
