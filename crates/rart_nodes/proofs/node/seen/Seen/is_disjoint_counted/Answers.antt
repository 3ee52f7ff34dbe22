use Rattle.std.specs.Option.{option_copied}
use Rattle.rart_keys.specs.Joins.{join}
use Rattle.rart_trie.specs.tries.Tree.{tree_pairs}
use Rattle.rart_nodes.specs.declared.node.intersect.join_path.JoinPath.TheVariants.{Nothing}
use Rattle.rart_nodes.proofs.joins.VisitorLemmas.{first-decides}
use Rattle.rart_nodes.proofs.node.seen.Seen.is_disjoint_counted.Goals as goal

pub returns-clause-value : goal.returns-clause-value
returns-clause-value g c =
    let l = tree_pairs (option_copied c.args.self.root) in
    let m = tree_pairs (option_copied c.args.other.root) in
    let none = c.joins.ensures.apart l m in
    let decides = first-decides Nothing tt tt (join l m) _ c.intersect_trees-walked.ensures.calls in (
      λ t. none.0 (decides.0 (rw (← c.is_ok.ensures.value) t)),
      λ h. rw c.is_ok.ensures.value (decides.1 (none.1 h)),
    )
