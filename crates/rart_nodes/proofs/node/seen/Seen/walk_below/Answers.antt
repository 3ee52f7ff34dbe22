use Rattle.std.proofs.Common.{◌≡◌, ◌∙◌, arith, ap, sym, Some}
use Rattle.std.specs.Option.{option_copied}
use Rattle.rart_nodes.specs.walks.Part.{tree_part}
use Rattle.rart_trie.proofs.edits.Outcomes.{err-any}
use Rattle.rart_trie.proofs.tries.CanonicalTests.{IsCanonical-test, IsCanonicalTree-test}
use Rattle.rart_nodes.proofs.ranges.PotentialLemmas.{low-tree}
use Rattle.rart_nodes.proofs.walks.PartLemmas.{few-count, part-length}
use Rattle.rart_trie.proofs.tries.StepLemmas.{root-entered}
use Rattle.rart_nodes.proofs.walks.WalkLemmas.{has-pairs}
use Rattle.rart_nodes.proofs.node.seen.Seen.walk_below.Goals as goal

pub returns-in_err-path-clause-allocates : goal.returns-in_err-path-clause-allocates
returns-in_err-path-clause-allocates g c = err-any c.from_residual.result
    (has-pairs c.in-Some.top.node.now _ c.in-Some.top.canonical c.in-Some.ensures)

pub returns-in_default-seek_prefix-clause-visits : goal.returns-in_default-seek_prefix-clause-visits
returns-in_default-seek_prefix-clause-visits g c =
    let root = root-entered c.args.prefix.now c.in-Some.top.node.now _ c.in-Some.top.canonical c.in-Some.ensures in
    omega (arith, c.in_default-seek_prefix.ensures.visits, root.0)

pub returns-in_default-seek_prefix-clause-bound : goal.returns-in_default-seek_prefix-clause-bound
returns-in_default-seek_prefix-clause-bound g c =
    let root = root-entered c.args.prefix.now c.in-Some.top.node.now _ c.in-Some.top.canonical c.in-Some.ensures in
    omega (arith, c.in_default-seek_prefix.ensures.visits, root.1)

pub returns-clause-visits : goal.returns-clause-visits
returns-clause-visits g c =
    let root = root-entered c.args.prefix.now c.in-Some.top.node.now _ c.in-Some.top.canonical c.in-Some.ensures in
    omega (arith, c.in-Some-seek_prefix.ensures.visits, root.0)

pub returns-clause-bound : goal.returns-clause-bound
returns-clause-bound g c =
    let root = root-entered c.args.prefix.now c.in-Some.top.node.now _ c.in-Some.top.canonical c.in-Some.ensures in
    omega (arith, c.in-Some-seek_prefix.ensures.visits, root.1)

pub returns-clause-nodes : goal.returns-clause-nodes
returns-clause-nodes g c =
    let u = c.in-Some-seek_prefix.at.node.now in
    let found : tree_part g.T.Keeps.grown (g.T.Path.kept c.in_ok-path.path) c.args.prefix.now
    (option_copied c.args.self.root) ≡ Some (g.T.Path.kept c.seek_prefix.new.path, u)
    = ap (tree_part g.T.Keeps.grown (g.T.Path.kept c.in_ok-path.path) c.args.prefix.now) (sym c.in-Some.ensures)
    ∙ c.in-Some-seek_prefix.ensures.found in
    omega (
      arith,
      c.walk_at-walk.ensures.visits,
      few-count u (IsCanonical-test u c.in-Some-seek_prefix.at.canonical),
      part-length g.T.Keeps.grown (g.T.Path.kept c.in_ok-path.path) (g.T.Path.kept c.seek_prefix.new.path)
          c.args.prefix.now (option_copied c.args.self.root) u (IsCanonicalTree-test _ c.args.self.canonical) found,
    )

pub returns-clause-low : goal.returns-clause-low
returns-clause-low g c = low-tree c.in-Some.top.node.now _ _ c.in-Some.top.canonical c.in-Some.ensures
    (c.walk_at-walk.ensures.low _ c.in-Some-seek_prefix.ensures.low)
