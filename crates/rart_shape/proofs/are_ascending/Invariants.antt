use Rattle.std.proofs.Common.{◌-◌, ◌↔◌}
use Rattle.rart_keys.specs.SortedMap.{IsAscending}
use Rattle.rart_trie.specs.shapes.KeyLists.{keys_in, unit_pairs}
use Rattle.rart_shape.proofs.AscendingKeys.{AscendFrom}
use Rattle.rart_shape.proofs.are_ascending.Given as goal

abbrev pub invariant-loop-i : goal.invariant-loop-i
invariant-loop-i l = AscendFrom (l.i - 1) l.keys ↔ IsAscending (unit_pairs (keys_in l.keys))
