use Rattle.std.proofs.Common.{◌++◌, map, ap, ◌∙◌}
use Rattle.rart_keys.specs.SortedMap.{values_of}
use Rattle.rart.proofs.bulks.PairLists.{zipped}
use Rattle.rart.proofs.tree.AdaptiveRadixTree.into_pairs.Goals as goal

pub returns-in-Ok-clause-pairs : goal.returns-in-Ok-clause-pairs
returns-in-Ok-clause-pairs g c = zipped _ _ c.args.self.pairs
    (ap (map g.K.KeyTrait.bytes) c.into_iter.ensures.rest ∙ c.in-Ok.ensures.keys)
    (c.into_iter-in-Ok.ensures.rest ∙ c.take_values.ensures.values
    ∙ ap (λ z. z ++ values_of c.args.self.pairs) c.in-Ok.ensures.empty)
