use Rattle.std.proofs.Common.{rules, [], ◌∷◌, ◌<◌, ◌++◌, length, vec_capacity, arith, ap, ◌∙◌, refl}
use Rattle.rart_nodes.proofs.ranges.LevelLemmas.{start, start-entries}
use Rattle.rart_nodes.proofs.walks.PathLemmas.{prefix-short}
use Rattle.rart_nodes.proofs.node.path_walk.descending.descending_walk_at.Goals as goal

pub grow-requires : goal.grow-requires
grow-requires g c κs = (
  (refl, tt),
  omega (
    arith,
    prefix-short c.args.at.node.now c.args.at.canonical,
    c.requires.bounds_keys,
    c.requires.reserved,
    ap length
        c.prefix.ensures,
  ),
)

pub returns-clause-path : goal.returns-clause-path
returns-clause-path g c =
    let places : c.args.longest < vec_capacity c.push_reserved.new.self = search rules in
    start g.T.Keeps.grown _ _ c.args.at.node.now (g.T.Path.kept c.args.path.now) _ c.value.result _ _ _
    g.T.Keeps.short c.args.at.canonical c.requires.bounds_keys places
    (c.grow.ensures.kept ∙ ap (λ p. g.T.Path.kept c.args.path.now ++ g.T.Keeps.grown p) c.prefix.ensures)
    c.descending_branches.ensures c.requires.empty_walk (c.push_reserved.ensures.items
    ∙ ap (λ n. c.args.levels.items ++ ((c.descending_branches.result, n), c.value.result) ∷ []) c.mark.ensures)

pub returns-clause-entries : goal.returns-clause-entries
returns-clause-entries g c =
    start-entries g.T.Keeps.grown c.args.at.node.now (g.T.Path.kept c.args.path.now) _ c.value.result _ _ _
    (c.grow.ensures.kept ∙ ap (λ p. g.T.Path.kept c.args.path.now ++ g.T.Keeps.grown p) c.prefix.ensures)
    c.value.ensures c.descending_branches.ensures c.requires.empty_walk (c.push_reserved.ensures.items
    ∙ ap (λ n. c.args.levels.items ++ ((c.descending_branches.result, n), c.value.result) ∷ []) c.mark.ensures)
