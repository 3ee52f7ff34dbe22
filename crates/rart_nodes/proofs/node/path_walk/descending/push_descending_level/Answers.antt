use Rattle.std.proofs.Common.{arith, ap, refl, length}
use Rattle.std.proofs.lemmas.List.{length-take}
use Rattle.rart_nodes.proofs.node.path_walk.descending.push_descending_level.Goals as goal

pub grow-requires : goal.grow-requires
grow-requires g c κs = (
  (refl, tt),
  omega (
    arith,
    c.requires.bytes,
    c.cut.ensures.capacity,
    ap length c.prefix.ensures,
    ap length c.cut.ensures.kept,
    length-take
        c.args.depth (g.T.Path.kept c.args.path.now),
  ),
)
