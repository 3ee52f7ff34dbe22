-- The size of a pointer, which each drop of a block requires.
use Rattle.std.proofs.Common.{arith}
use Rattle.rart_nodes_tests.proofs.nodes.delete.Goals as goal

pub drop-branch-requires : goal.drop-branch-requires
drop-branch-requires g c = omega arith

pub drop-requires : goal.drop-requires
drop-requires g c = omega arith

pub drop-requires-in_ok-child-in-Ok-2 : goal.drop-requires-in_ok-child-in-Ok-2
drop-requires-in_ok-child-in-Ok-2 g c = omega arith
