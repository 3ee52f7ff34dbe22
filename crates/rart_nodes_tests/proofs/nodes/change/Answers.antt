-- The size of a pointer, which each drop of a block requires.
use Rattle.std.proofs.Common.{arith}
use Rattle.rart_nodes_tests.proofs.nodes.change.Goals as goal

pub drop-value-inside-requires : goal.drop-value-inside-requires
drop-value-inside-requires g c = omega arith

pub drop-requires : goal.drop-requires
drop-requires g c = omega arith

pub drop-requires-in-Err-Memory-2 : goal.drop-requires-in-Err-Memory-2
drop-requires-in-Err-Memory-2 g c = omega arith

pub drop-other-requires : goal.drop-other-requires
drop-other-requires g c = omega arith

pub drop-requires-in-Err : goal.drop-requires-in-Err
drop-requires-in-Err g c = omega arith

pub drop-requires-in-Err-2 : goal.drop-requires-in-Err-2
drop-requires-in-Err-2 g c = omega arith

pub drop-child-requires : goal.drop-child-requires
drop-child-requires g c = omega arith

pub drop-requires-in-Ok-delete_child : goal.drop-requires-in-Ok-delete_child
drop-requires-in-Ok-delete_child g c = omega arith

pub drop-requires-in-Ok-delete_child-2 : goal.drop-requires-in-Ok-delete_child-2
drop-requires-in-Ok-delete_child-2 g c = omega arith
