use Rattle.std.proofs.Common.{◌≡◌}
use Rattle.rart_keys.specs.BulkLists.{put_all}
use Rattle.rart.specs.Steps.{pairs_in}
use Rattle.rart.proofs.tree.AdaptiveRadixTree.extend.Given as goal

abbrev pub invariant-loop-key : goal.invariant-loop-key
invariant-loop-key g l = record {
  can : (goal.iterator-loop-key g).can_next l.key-iterator;
  finite : (goal.iterator-loop-key g).is_finite l.key-iterator;
  put : l.self.pairs ≡ put_all (pairs_in g.K.KeyTrait.bytes l.yielded) l.fn.self.pairs;
}
