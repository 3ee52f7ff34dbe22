use Rattle.std.proofs.Common.{◌≡◌, ◌-◌}
use Rattle.rart_trie.specs.build.Spine.{IsBuilderAt, builder_pairs}
use Rattle.rart.proofs.bulks.IndexedLoads.{IsLoading}
use Rattle.rart.proofs.tree.bulk.indexed.build_by_index.Given as goal

abbrev pub invariant-loop-at : goal.invariant-loop-at
invariant-loop-at g l = record {
  spine : IsBuilderAt l.last l.builder;
  loading : IsLoading (goal.G-pre g) (goal.G-step g)
      (λ i key. (k : _) × goal.F-post g l.key_at i k × (key ≡ g.K.KeyTrait.bytes k.now)) g.K.KeyTrait.MAXIMUM_SIZE l.len
      l.at l.last (builder_pairs l.last l.builder) l.longest l.fn.take_value l.take_value;
}

abbrev pub decreases-loop-at : goal.decreases-loop-at
decreases-loop-at g l = l.len - l.at
