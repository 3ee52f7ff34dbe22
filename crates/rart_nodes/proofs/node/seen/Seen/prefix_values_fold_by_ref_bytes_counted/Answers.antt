use Rattle.std.proofs.Common.{List, ap, ◌∙◌, sym, subst}
use Rattle.std.specs.Option.{option_copied}
use Rattle.rart_nodes.specs.walks.Shown.{CanFold, FoldsEach}
use Rattle.rart_trie.specs.walks.Walk.{entry_values}
use Rattle.rart_nodes.specs.walks.PathParts.{no_segment}
use Rattle.rart_trie.proofs.tries.CanonicalTests.{IsCanonicalTree-test}
use Rattle.rart_nodes.proofs.walks.PartLemmas.{part-values}
use Rattle.rart_nodes.proofs.node.seen.Seen.prefix_values_fold_by_ref_bytes_counted.Goals as goal

pub fold_values-requires-clause-callable : goal.fold_values-requires-clause-callable
fold_values-requires-clause-callable g c =
    let e = ap entry_values c.in_ok-walk.ensures.entries
    ∙ part-values no_segment c.args.prefix.now (option_copied c.args.self.root)
    (IsCanonicalTree-test _ c.args.self.canonical) in
    subst (λ (x : List g.row.V.Denot). CanFold g.F.FnMut c.args.f.now c.args.init x) (sym e) c.requires.callable

pub returns-clause-calls : goal.returns-clause-calls
returns-clause-calls g c =
    let e = ap entry_values c.in_ok-walk.ensures.entries
    ∙ part-values no_segment c.args.prefix.now (option_copied c.args.self.root)
    (IsCanonicalTree-test _ c.args.self.canonical) in
    subst (λ (x : List g.row.V.Denot). FoldsEach g.F.FnMut c.args.f.now c.args.init x c.fold_values.new.f
    c.fold_values.result) e c.fold_values.ensures.calls
