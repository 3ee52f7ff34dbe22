-- The size of a pointer, which each drop of a block requires.
use Rattle.std.proofs.Common.{arith}
use Rattle.rart_nodes_tests.proofs.nodes.replace.Goals as goal

pub drop-child-inside-requires : goal.drop-child-inside-requires
drop-child-inside-requires c = omega arith

pub drop-requires : goal.drop-requires
drop-requires c = omega arith

pub drop-requires-in-Ok-2 : goal.drop-requires-in-Ok-2
drop-requires-in-Ok-2 c = omega arith

pub drop-back-inside-requires : goal.drop-back-inside-requires
drop-back-inside-requires c = omega arith

pub drop-requires-then-eq : goal.drop-requires-then-eq
drop-requires-then-eq c = omega arith

pub drop-requires-then-eq-2 : goal.drop-requires-then-eq-2
drop-requires-then-eq-2 c = omega arith

pub drop-back-inside-requires-in-Err : goal.drop-back-inside-requires-in-Err
drop-back-inside-requires-in-Err c = omega arith

pub drop-requires-else-eq : goal.drop-requires-else-eq
drop-requires-else-eq c = omega arith

pub drop-requires-else-eq-2 : goal.drop-requires-else-eq-2
drop-requires-else-eq-2 c = omega arith
