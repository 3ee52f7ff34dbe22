-- The size of a pointer, which each drop of a block requires.
use Rattle.std.proofs.Common.{arith}
use Rattle.rart_nodes_tests.proofs.nodes.check_rows.Goals as goal

pub drop-node-inside-requires : goal.drop-node-inside-requires
drop-node-inside-requires g c = omega arith

pub drop-requires : goal.drop-requires
drop-requires g c = omega arith

pub drop-requires-in-Ok-2 : goal.drop-requires-in-Ok-2
drop-requires-in-Ok-2 g c = omega arith
