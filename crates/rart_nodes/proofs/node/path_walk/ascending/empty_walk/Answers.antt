use Rattle.std.proofs.Common.{[], arith}
use Rattle.rart_nodes.proofs.walks.PathLemmas.{no-levels}
use Rattle.rart_nodes.proofs.node.path_walk.ascending.empty_walk.Goals as goal

pub returns-clause-path : goal.returns-clause-path
returns-clause-path g c = rw (c.empty.ensures.empty_path, c.new.ensures.items) (no-levels _ _ [] (omega arith))
