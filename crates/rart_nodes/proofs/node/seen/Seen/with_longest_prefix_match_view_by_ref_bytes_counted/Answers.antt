use Rattle.std.proofs.Common.{rules, of_calls, ap, ◌∙◌}
use Rattle.rart_nodes.specs.tries.SeenTrees.{seen_keys}
use Rattle.rart_nodes.specs.walks.PathParts.{lent_segments}
use Rattle.rart_nodes.proofs.walks.CallLemmas.{can-show}
use Rattle.rart_trie.proofs.edits.CallbackLemmas.{always-on}
use Rattle.rart_nodes.proofs.walks.ShownCuts.{shows-cut}
use Rattle.rart_nodes.proofs.node.seen.Seen.with_longest_prefix_match_view_by_ref_bytes_counted.Goals as goal

pub f-requires : goal.f-requires
f-requires g c = can-show g.F.FnMut c.args.f.now (seen_keys c.args.self) _ c.in-Some.path c.in-Some.value
    c.of.result c.requires.callable (rw c.in-Some.is at c.in_ok-path.ensures.found)
    (c.of.ensures ∙ ap lent_segments c.segments.ensures)

pub returns-clause-stays_callable : goal.returns-clause-stays_callable
returns-clause-stays_callable g c = always-on g.F.FnMut c.args.f.now (c.of.result, (c.in-Some.value, tt)) tt
    c.f.new.self
    (search (rules, of_calls))

pub returns-clause-calls : goal.returns-clause-calls
returns-clause-calls g c = shows-cut (seen_keys c.args.self) c.in-Some.path c.in-Some.value c.of.result g.F.FnMut
    c.args.f.now c.f.new.self _ (rw c.in-Some.is at c.in_ok-path.ensures.found) (c.of.ensures
    ∙ ap lent_segments c.segments.ensures) (search (rules, of_calls))
