-- The size of a pointer, which each drop of a block requires.
use Rattle.std.proofs.Common.{arith}
use Rattle.rart.proofs.tree.AdaptiveRadixTree.clear.Goals as goal

pub drop-requires-after-self-gt-SHALLOW-2-2 : goal.drop-requires-after-self-gt-SHALLOW-2-2
drop-requires-after-self-gt-SHALLOW-2-2 g c = omega arith

pub drop-requires-after-self-gt-SHALLOW-3-2 : goal.drop-requires-after-self-gt-SHALLOW-3-2
drop-requires-after-self-gt-SHALLOW-3-2 g c = omega arith

pub drop-requires-after-self-gt-SHALLOW-4-2 : goal.drop-requires-after-self-gt-SHALLOW-4-2
drop-requires-after-self-gt-SHALLOW-4-2 g c = omega arith
