use Rattle.std.proofs.Common.{take, ◌||◌}
use Rattle.rart_trie.specs.shapes.BranchPoints.{begins_any}
use Rattle.rart_shape.specs.ShapeRecords.{records_of}
use Rattle.rart_trie.specs.shapes.KeyLists.{keys_in}
use Rattle.rart_shape.proofs.ShapeOfLemmas.{Covers, is_short}
use Rattle.rart_shape.proofs.shape_of.Given as goal

abbrev pub invariant-lengths : goal.invariant-lengths
invariant-lengths l = Covers (keys_in l.keys)
    (λ p. begins_any p (keys_in (take l.key-index l.keys)) || is_short l.length p l.key.now)
    (records_of l.records.items)

abbrev pub invariant-keys : goal.invariant-keys
invariant-keys l = Covers (keys_in l.keys) (λ p. begins_any p (keys_in (take l.key-index l.keys)))
    (records_of l.records.items)
