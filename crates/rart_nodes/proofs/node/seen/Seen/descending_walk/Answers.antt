use Rattle.std.proofs.Common.{ap, ◌∙◌}
use Rattle.rart_trie.specs.walks.Walk.{segments_after, entries_of, tree_entries}
use Rattle.rart_trie.proofs.edits.Outcomes.{err-any}
use Rattle.rart_nodes.proofs.walks.WalkLemmas.{after-none, has-pairs}
use Rattle.rart_nodes.proofs.node.seen.Seen.descending_walk.Goals as goal

pub returns-in_err-path-clause-allocates : goal.returns-in_err-path-clause-allocates
returns-in_err-path-clause-allocates g c = err-any c.from_residual.result
    (has-pairs c.in-Some.root.node.now _ c.in-Some.root.canonical c.in-Some.ensures)

pub returns-clause-entries : goal.returns-clause-entries
returns-clause-entries g c =
    c.descending_walk_at-walk.ensures.entries
    ∙ ap (λ k. segments_after k (entries_of g.T.Keeps.grown c.enter-root.result.node.now))
    c.in_ok-path.ensures.empty_path
    ∙ after-none (entries_of g.T.Keeps.grown c.enter-root.result.node.now)
    ∙ ap (entries_of g.T.Keeps.grown) c.enter-root.ensures.shown
    ∙ ap (tree_entries g.T.Keeps.grown) c.in-Some.ensures
