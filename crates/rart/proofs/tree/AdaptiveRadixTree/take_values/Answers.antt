-- The size of a pointer, which each drop of a block requires.
use Rattle.std.proofs.Common.{arith}
use Rattle.rart.proofs.tree.AdaptiveRadixTree.take_values.Goals as goal

pub drop-requires-then-longest-gt-SHALLOW-2-2 : goal.drop-requires-then-longest-gt-SHALLOW-2-2
drop-requires-then-longest-gt-SHALLOW-2-2 g c = omega arith

pub drop-requires-then-longest-gt-SHALLOW-3-2 : goal.drop-requires-then-longest-gt-SHALLOW-3-2
drop-requires-then-longest-gt-SHALLOW-3-2 g c = omega arith

pub drop-requires-then-longest-gt-SHALLOW-4-2 : goal.drop-requires-then-longest-gt-SHALLOW-4-2
drop-requires-then-longest-gt-SHALLOW-4-2 g c = omega arith

pub drop-requires-else-longest-gt-SHALLOW-2-2 : goal.drop-requires-else-longest-gt-SHALLOW-2-2
drop-requires-else-longest-gt-SHALLOW-2-2 g c = omega arith

pub drop-requires-else-longest-gt-SHALLOW-3-2 : goal.drop-requires-else-longest-gt-SHALLOW-3-2
drop-requires-else-longest-gt-SHALLOW-3-2 g c = omega arith

pub drop-requires-else-longest-gt-SHALLOW-4-2 : goal.drop-requires-else-longest-gt-SHALLOW-4-2
drop-requires-else-longest-gt-SHALLOW-4-2 g c = omega arith
