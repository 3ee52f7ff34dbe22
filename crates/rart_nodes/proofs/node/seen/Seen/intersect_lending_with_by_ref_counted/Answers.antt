use Rattle.std.proofs.Common.{rules, ◌≡◌, refl, ap, IfErr}
use Rattle.std.proofs.lemmas.Result.{IfErr-weaker}
use Rattle.std.specs.Option.{option_copied}
use Rattle.rart_keys.specs.Joins.{join}
use Rattle.rart_nodes.specs.joins.ViewCalls.{TakesViewAt, ViewedAt}
use Rattle.rart_trie.specs.tries.Tree.{tree_pairs}
use Rattle.rart_trie.specs.walks.Walk.{joined_bytes}
use Rattle.rart_nodes.specs.walks.PathParts.{lent_segments}
use Rattle.rart_parts.specs.declared.error.TreeError.{TreeError}
use Rattle.rart_nodes.proofs.joins.CallLemmas.{always-after-view-at, can-views}
use Rattle.rart_nodes.proofs.joins.VisitorLemmas.{given-whole}
use Rattle.rart_nodes.proofs.walks.WalkLemmas.{has-pairs}
use Rattle.rart_nodes.proofs.node.seen.Seen.intersect_lending_with_by_ref_counted.Goals as goal

pub returns-in_default-clause-calls : goal.returns-in_default-clause-calls
returns-in_default-clause-calls g c = rw c.in_default.ensures.0 refl

pub returns-in_err-segments-clause-memory : goal.returns-in_err-segments-clause-memory
returns-in_err-segments-clause-memory g c =
    let left = has-pairs c.in-Some.tops.0.node.now (option_copied c.args.self.root) c.in-Some.tops.0.canonical
    c.in-Some.ensures.0 in
    let right = has-pairs c.in-Some.tops.1.node.now (option_copied c.args.other.root) c.in-Some.tops.1.canonical
    c.in-Some.ensures.1 in
    let memory : IfErr c.from_residual.result (λ e. e ≡ TreeError.Memory) = search rules in
    IfErr-weaker c.from_residual.result (λ e. e ≡ TreeError.Memory) _ (λ e m. (m, left, right)) memory

pub returns-clause-calls : goal.returns-clause-calls
returns-clause-calls g c =
    given-whole (λ p x q. ViewedAt g.F.FnMut p x q) (joined_bytes (lent_segments c.in_ok-segments.segments.items)) _ _
    (join (tree_pairs (option_copied c.args.self.root)) (tree_pairs (option_copied c.args.other.root)))
    (ap (λ z. joined_bytes (lent_segments z)) c.in_ok-segments.ensures.items) c.intersect_trees.ensures.calls.1

pub intersect_trees-requires-clause-callable : goal.intersect_trees-requires-clause-callable
intersect_trees-requires-clause-callable g c =
    can-views (λ p x q. ViewedAt g.F.FnMut p x q) (λ p x. TakesViewAt g.F.FnMut p x) _
    (join (tree_pairs (option_copied c.args.self.root)) (tree_pairs (option_copied c.args.other.root)))
    c.in_ok-segments.segments (ap (λ z. joined_bytes (lent_segments z)) c.in_ok-segments.ensures.items)
    c.requires.callable

pub returns-clause-stays_callable : goal.returns-clause-stays_callable
returns-clause-stays_callable g c = always-after-view-at g.F.FnMut _ _ _ (returns-clause-calls g c)
