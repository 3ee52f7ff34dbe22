-- The size of a pointer, which each drop of a block requires.
use Rattle.std.proofs.Common.{arith}
use Rattle.rart_nodes_tests.proofs.nodes.add.Goals as goal

pub drop-refused-requires : goal.drop-refused-requires
drop-refused-requires g c = omega arith

pub drop-requires : goal.drop-requires
drop-requires g c = omega arith

pub drop-requires-in-Err-2 : goal.drop-requires-in-Err-2
drop-requires-in-Err-2 g c = omega arith
