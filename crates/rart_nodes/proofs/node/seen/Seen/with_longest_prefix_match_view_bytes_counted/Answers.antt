use Rattle.std.proofs.Common.{rules, of_calls, ap, ◌∙◌}
use Rattle.rart_nodes.specs.tries.SeenTrees.{seen_keys}
use Rattle.rart_nodes.specs.walks.PathParts.{lent_segments}
use Rattle.rart_nodes.proofs.walks.CallLemmas.{can-see}
use Rattle.rart_nodes.proofs.walks.ShownCuts.{sees-cut}
use Rattle.rart_nodes.proofs.node.seen.Seen.with_longest_prefix_match_view_bytes_counted.Goals as goal

pub f-requires : goal.f-requires
f-requires g c = can-see g.F.FnOnce c.args.f (seen_keys c.args.self) _ c.in-Some.path c.in-Some.value c.of.result
    c.requires.callable (rw c.in-Some.is at c.in_ok-path.ensures.found) (c.of.ensures
    ∙ ap lent_segments c.segments.ensures)

pub returns-clause-calls : goal.returns-clause-calls
returns-clause-calls g c = sees-cut (seen_keys c.args.self) c.in-Some.path c.in-Some.value c.of.result g.F.FnOnce
    c.args.f _ (rw c.in-Some.is at c.in_ok-path.ensures.found) (c.of.ensures
    ∙ ap lent_segments c.segments.ensures) (search (rules, of_calls))
