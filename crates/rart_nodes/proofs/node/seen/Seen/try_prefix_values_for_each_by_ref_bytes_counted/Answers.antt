use Rattle.std.proofs.Common.{List, Ok, Err, ap, ◌∙◌, sym, subst, arith}
use Rattle.std.specs.Option.{option_copied}
use Rattle.rart_trie.specs.walks.Walk.{entry_values}
use Rattle.rart_nodes.specs.walks.PathParts.{no_segment}
use Rattle.rart_nodes.specs.walks.Tried.{CanTry, EndsAfter, EndsAs}
use Rattle.rart_trie.proofs.tries.CanonicalTests.{IsCanonicalTree-test}
use Rattle.rart_nodes.proofs.walks.PartLemmas.{part-values}
use Rattle.rart_nodes.proofs.node.seen.Seen.try_prefix_values_for_each_by_ref_bytes_counted.Goals as goal

pub try_for_each-requires-clause-callable : goal.try_for_each-requires-clause-callable
try_for_each-requires-clause-callable g c =
    let e = ap entry_values c.in-Ok.ensures.entries ∙ part-values no_segment c.args.prefix.now
    (option_copied c.args.self.root) (IsCanonicalTree-test _ c.args.self.canonical) in
    subst (λ (x : List g.row.V.Denot). CanTry g.F.FnMut c.args.f.now x) (sym e) c.requires.callable

pub returns-in-Ok-try_for_each-clause-calls : goal.returns-in-Ok-try_for_each-clause-calls
returns-in-Ok-try_for_each-clause-calls g c =
    let e = ap entry_values c.in-Ok.ensures.entries ∙ part-values no_segment c.args.prefix.now
    (option_copied c.args.self.root) (IsCanonicalTree-test _ c.args.self.canonical) in
    subst (λ (x : List g.row.V.Denot). EndsAs g.F.FnMut c.args.f.now x (Ok tt) c.try_for_each.new.f) e
    c.in-Ok-try_for_each.ensures.calls

pub returns-clause-calls : goal.returns-clause-calls
returns-clause-calls g c =
    let e = ap entry_values c.in-Ok.ensures.entries ∙ part-values no_segment c.args.prefix.now
    (option_copied c.args.self.root) (IsCanonicalTree-test _ c.args.self.canonical) in
    subst (λ (x : List g.row.V.Denot). EndsAs g.F.FnMut c.args.f.now x (Err c.in-Err.error) c.try_for_each.new.f) e
    c.in-Err.ensures.calls

-- in numbers: what the walk down visited, and what the walk over the values did
pub returns-clause-bound : goal.returns-clause-bound
returns-clause-bound g c = omega (
  arith,
  c.in-Ok.ensures.bound,
  c.in-Ok.ensures.nodes,
  c.try_for_each.ensures.visits,
)

pub returns-clause-visits : goal.returns-clause-visits
returns-clause-visits g c = omega (
  arith,
  c.in-Ok.ensures.visits,
  c.in-Ok.ensures.nodes,
  c.try_for_each.ensures.visits,
)

pub returns-in-Ok-try_for_each-clause-by_calls : goal.returns-in-Ok-try_for_each-clause-by_calls
returns-in-Ok-try_for_each-clause-by_calls g c =
    let e = ap entry_values c.in-Ok.ensures.entries ∙ part-values no_segment c.args.prefix.now
    (option_copied c.args.self.root) (IsCanonicalTree-test _ c.args.self.canonical) in
    let n = c.in-Ok-try_for_each.ensures.by_calls _ c.in-Ok.ensures.low in (
      n.0,
      (
        subst (λ (x : List g.row.V.Denot). EndsAfter g.F.FnMut c.args.f.now x n.0 (Ok tt) c.try_for_each.new.f) e n.1.0,
        omega (
          arith,
          n.1.1,
          c.in-Ok.ensures.visits,
        ),
      ),
    )

pub returns-clause-by_calls : goal.returns-clause-by_calls
returns-clause-by_calls g c =
    let e = ap entry_values c.in-Ok.ensures.entries ∙ part-values no_segment c.args.prefix.now
    (option_copied c.args.self.root) (IsCanonicalTree-test _ c.args.self.canonical) in
    let n = c.in-Err.ensures.by_calls _ c.in-Ok.ensures.low in (
      n.0,
      (
        subst (λ (x : List g.row.V.Denot). EndsAfter g.F.FnMut c.args.f.now x n.0 (Err c.in-Err.error)
            c.try_for_each.new.f) e n.1.0,
        omega (
          arith,
          n.1.1,
          c.in-Ok.ensures.visits,
        ),
      ),
    )
