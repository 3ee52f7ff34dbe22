-- The size of a pointer, which each drop of a block requires.
use Rattle.std.proofs.Common.{arith}
use Rattle.rart_nodes_tests.proofs.lent.assign.Goals as goal

pub drop-child-requires : goal.drop-child-requires
drop-child-requires c = omega arith

pub drop-requires : goal.drop-requires
drop-requires c = omega arith

pub drop-requires-in_ok-child-2 : goal.drop-requires-in_ok-child-2
drop-requires-in_ok-child-2 c = omega arith
