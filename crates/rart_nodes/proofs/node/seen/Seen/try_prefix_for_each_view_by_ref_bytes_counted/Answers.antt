use Rattle.std.proofs.Common.{rules, arith, ◌≡◌, ◌<◌, ◌^◌, ◌∙◌, List, Ok, Err, sym, subst}
use Rattle.std.specs.Option.{option_copied}
use Rattle.std.specs.declared.ops.Bound.TheVariants.{Unbounded}
use Rattle.rart_trie.specs.ranges.Starts.{entries_to}
use Rattle.rart_trie.specs.tries.Tree.{tree_pairs}
use Rattle.rart_trie.specs.walks.BelowPrefix.{cut_below}
use Rattle.rart_trie.specs.walks.Walk.{SegmentList}
use Rattle.rart_trie.proofs.tries.CanonicalTests.{IsCanonicalTree-test}
use Rattle.rart_nodes.specs.walks.TriedViews.{CanTryView, EndsViews, EndsViewsAfter}
use Rattle.rart_nodes.specs.walks.ViewSegments.{AreViews, views_ahead}
use Rattle.rart_nodes.proofs.walks.TriedViewLemmas.{to-unbounded}
use Rattle.rart_nodes.proofs.walks.PartCuts.{part-cut, part-views}
use Rattle.rart_nodes.proofs.node.seen.Seen.try_prefix_for_each_view_by_ref_bytes_counted.Given.{Over}
use Rattle.rart_nodes.proofs.node.seen.Seen.try_prefix_for_each_view_by_ref_bytes_counted.Goals.{In-Ok}
use Rattle.rart_nodes.proofs.node.seen.Seen.try_prefix_for_each_view_by_ref_bytes_counted.Goals as goal

pub try_for_each_view_to-requires-clause-views : goal.try_for_each_view_to-requires-clause-views
try_for_each_view_to-requires-clause-views g c =
    let n : c.args.self.longest < 2 ^ 64 = search rules in
    subst AreViews (sym c.in-Ok.ensures.entries)
    (part-views c.args.self.longest c.args.prefix.now (option_copied c.args.self.root)
    (IsCanonicalTree-test _ c.args.self.canonical) c.args.self.short n)

-- the walk has the pairs below the prefix
given : (g : Over) (c : In-Ok g) → entries_to Unbounded
    (views_ahead c.in-Ok.path.segments.items c.in-Ok.walk.first c.in-Ok.walk.levels.items)
    ≡ cut_below c.args.prefix.now (tree_pairs (option_copied c.args.self.root))
given g c = to-unbounded _ ∙ c.in-Ok.ensures.entries ∙ part-cut c.args.prefix.now (option_copied c.args.self.root)
    (IsCanonicalTree-test _ c.args.self.canonical)

pub try_for_each_view_to-requires-clause-callable : goal.try_for_each_view_to-requires-clause-callable
try_for_each_view_to-requires-clause-callable g c =
    subst (λ (w : List (SegmentList × g.row.V.Denot)). CanTryView g.F.FnMut c.args.f.now w)
    (sym (given g (goal.at.try_for_each_view_to-requires-clause-callable g c).In-Ok)) c.requires.callable

-- in numbers: what the walk down visited, and what the walk over the pairs did
pub returns-clause-bound : goal.returns-clause-bound
returns-clause-bound g c = omega (
  arith,
  c.in-Ok.ensures.bound,
  c.in-Ok.ensures.nodes,
  c.try_for_each_view_to.ensures.visits,
)

pub returns-clause-visits : goal.returns-clause-visits
returns-clause-visits g c = omega (
  arith,
  c.in-Ok.ensures.visits,
  c.in-Ok.ensures.nodes,
  c.try_for_each_view_to.ensures.visits,
)

pub returns-in-Ok-try_for_each_view_to-clause-calls : goal.returns-in-Ok-try_for_each_view_to-clause-calls
returns-in-Ok-try_for_each_view_to-clause-calls g c =
    subst (λ (w : List (SegmentList × g.row.V.Denot)). EndsViews g.F.FnMut c.args.f.now w (Ok tt)
    c.try_for_each_view_to.new.f) (given g (goal.at.returns-in-Ok-try_for_each_view_to-clause-calls g c).In-Ok)
    c.in-Ok-try_for_each_view_to.ensures.calls

pub returns-in-Ok-try_for_each_view_to-clause-by_calls : goal.returns-in-Ok-try_for_each_view_to-clause-by_calls
returns-in-Ok-try_for_each_view_to-clause-by_calls g c =
    let n = c.in-Ok-try_for_each_view_to.ensures.by_calls _ c.in-Ok.ensures.low in (
      n.0,
      (
        subst (λ (w : List (SegmentList × g.row.V.Denot)). EndsViewsAfter g.F.FnMut c.args.f.now w n.0 (Ok tt)
            c.try_for_each_view_to.new.f)
            (given g (goal.at.returns-in-Ok-try_for_each_view_to-clause-by_calls g c).In-Ok) n.1.0,
        omega (arith, n.1.1, c.in-Ok.ensures.visits),
      ),
    )

pub returns-clause-calls : goal.returns-clause-calls
returns-clause-calls g c =
    subst (λ (w : List (SegmentList × g.row.V.Denot)). EndsViews g.F.FnMut c.args.f.now w (Err c.in-Err.error)
    c.try_for_each_view_to.new.f) (given g (goal.at.returns-clause-calls g c).In-Ok) c.in-Err.ensures.calls

pub returns-clause-by_calls : goal.returns-clause-by_calls
returns-clause-by_calls g c =
    let n = c.in-Err.ensures.by_calls _ c.in-Ok.ensures.low in (
      n.0,
      (
        subst (λ (w : List (SegmentList × g.row.V.Denot)). EndsViewsAfter g.F.FnMut c.args.f.now w n.0
            (Err c.in-Err.error) c.try_for_each_view_to.new.f)
            (given g (goal.at.returns-clause-by_calls g c).In-Ok) n.1.0,
        omega (arith, n.1.1, c.in-Ok.ensures.visits),
      ),
    )
