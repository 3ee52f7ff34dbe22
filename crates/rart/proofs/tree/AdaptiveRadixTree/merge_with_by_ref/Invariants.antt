use Rattle.std.proofs.Common.{length}
use Rattle.rart.specs.Merges.{CanMerge, MergesFirst}
use Rattle.rart.proofs.tree.AdaptiveRadixTree.merge_with_by_ref.Given as goal

abbrev pub invariant-pairs : goal.invariant-pairs
invariant-pairs g l = record {
  merged : MergesFirst g.F.FnMut g.K.KeyTrait.bytes l.fn.f l.fn.self.pairs l.fn.other.pairs l.f l.self.pairs
      l.other.pairs;
  callable : CanMerge g.F.FnMut g.K.KeyTrait.bytes l.f l.self.pairs l.other.pairs;
}

abbrev pub decreases-pairs : goal.decreases-pairs
decreases-pairs g l = length l.other.pairs
