use Rattle.std.proofs.Common.{rules, ◌<◌, ◌^◌, ◌∙◌, List, sym, subst}
use Rattle.std.specs.Option.{option_copied}
use Rattle.rart_trie.specs.walks.Walk.{SegmentList}
use Rattle.rart_nodes.specs.walks.ViewSegments.{AreViews}
use Rattle.rart_nodes.specs.walks.Viewed.{CanView, ViewsEach}
use Rattle.rart_trie.proofs.tries.CanonicalTests.{IsCanonicalTree-test}
use Rattle.rart_nodes.proofs.walks.PartCuts.{part-cut, part-views}
use Rattle.rart_nodes.proofs.node.seen.Seen.prefix_for_each_view_by_ref_bytes_counted.Goals as goal

pub for_each_view_of-requires-clause-views : goal.for_each_view_of-requires-clause-views
for_each_view_of-requires-clause-views g c =
    let n : c.args.self.longest < 2 ^ 64 = search rules in
    subst AreViews (sym c.in_ok-walk.ensures.entries)
    (part-views c.args.self.longest c.args.prefix.now (option_copied c.args.self.root)
    (IsCanonicalTree-test _ c.args.self.canonical) c.args.self.short n)

pub for_each_view_of-requires-clause-callable : goal.for_each_view_of-requires-clause-callable
for_each_view_of-requires-clause-callable g c =
    subst (λ (w : List (SegmentList × g.row.V.Denot)). CanView g.F.FnMut c.args.f.now w)
    (sym (c.in_ok-walk.ensures.entries ∙ part-cut c.args.prefix.now (option_copied c.args.self.root)
    (IsCanonicalTree-test _ c.args.self.canonical))) c.requires.callable

pub returns-clause-calls : goal.returns-clause-calls
returns-clause-calls g c =
    subst (λ (w : List (SegmentList × g.row.V.Denot)). ViewsEach g.F.FnMut c.args.f.now w c.for_each_view_of.new.f)
    (c.in_ok-walk.ensures.entries ∙ part-cut c.args.prefix.now (option_copied c.args.self.root)
    (IsCanonicalTree-test _ c.args.self.canonical)) c.for_each_view_of.ensures.calls
