use Rattle.std.proofs.Common.{◌≡◌, length}
use Rattle.rart_keys.specs.SortedMap.{IsAscending}
use Rattle.rart.specs.Unions.{difference_of}
use Rattle.rart.proofs.tree.two_trees.difference.DifferenceIterIterator.next.Given as goal

-- only keys of the other tree were passed over
abbrev pub invariant-loop-key : goal.invariant-loop-key
invariant-loop-key g l = record {
  same : difference_of l.self-inside.left l.self-inside.right ≡ l.fn.self;
  left_ascends : IsAscending l.self-inside.left;
  right_ascends : IsAscending l.self-inside.right;
}

abbrev pub decreases-loop-key : goal.decreases-loop-key
decreases-loop-key g l = length l.self-inside.left
