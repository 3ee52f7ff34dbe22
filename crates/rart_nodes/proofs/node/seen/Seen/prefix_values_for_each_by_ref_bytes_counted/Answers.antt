use Rattle.std.proofs.Common.{List, ap, ◌∙◌, sym, subst}
use Rattle.std.specs.Option.{option_copied}
use Rattle.rart_nodes.specs.walks.Shown.{CanShow, ShowsEach}
use Rattle.rart_trie.specs.walks.Walk.{entry_values}
use Rattle.rart_nodes.specs.walks.PathParts.{no_segment}
use Rattle.rart_trie.proofs.tries.CanonicalTests.{IsCanonicalTree-test}
use Rattle.rart_nodes.proofs.walks.PartLemmas.{part-values}
use Rattle.rart_nodes.proofs.node.seen.Seen.prefix_values_for_each_by_ref_bytes_counted.Goals as goal

pub for_each_value-requires-clause-callable : goal.for_each_value-requires-clause-callable
for_each_value-requires-clause-callable g c =
    let e = ap entry_values c.in_ok-walk.ensures.entries
    ∙ part-values no_segment c.args.prefix.now (option_copied c.args.self.root)
    (IsCanonicalTree-test _ c.args.self.canonical) in
    subst (λ (x : List g.row.V.Denot). CanShow g.F.FnMut c.args.f.now x) (sym e) c.requires.callable

pub returns-clause-calls : goal.returns-clause-calls
returns-clause-calls g c =
    let e = ap entry_values c.in_ok-walk.ensures.entries
    ∙ part-values no_segment c.args.prefix.now (option_copied c.args.self.root)
    (IsCanonicalTree-test _ c.args.self.canonical) in
    subst (λ (x : List g.row.V.Denot). ShowsEach g.F.FnMut c.args.f.now x c.for_each_value.new.f) e
    c.for_each_value.ensures.calls
