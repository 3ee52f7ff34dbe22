use Rattle.std.proofs.Common.{◌≡◌, ◌+◌, ◌≤◌, ◌++◌, length, map}
use Rattle.std.specs.Prelude.{vec_capacity}
use Rattle.rart_keys.specs.SortedMap.{keys_of}
use Rattle.rart.proofs.tree.AdaptiveRadixTree.keys_and_capacity.Given as goal

abbrev pub invariant-loop-key : goal.invariant-loop-key
invariant-loop-key g l = record {
  keys : map g.K.KeyTrait.bytes l.keys.items ++ keys_of l.rest ≡ keys_of l.self.pairs;
  many : length l.keys.items + length l.rest ≡ length l.self.pairs;
  reserved : length l.self.pairs ≤ vec_capacity l.keys;
}

abbrev pub decreases-loop-key : goal.decreases-loop-key
decreases-loop-key g l = length l.rest
