use Rattle.std.proofs.Common.{◌∙◌, ap, sym}
use Rattle.rart_keys.specs.SortedMap.{keys_of}
use Rattle.rart.proofs.laws.bulk_loads.bulk_load_equals_insertion.Goals as goal

pub equal_keys_equal_nodes-requires : goal.equal_keys_equal_nodes-requires
equal_keys_equal_nodes-requires g c =
    ap keys_of (c.in-Ok.ensures.pairs ∙ sym (c.put_in_any_order.ensures _ _ c.requires.ascending c.requires.permutation)
    ∙ sym c.in-Ok-inserted_tree.ensures.pairs)

pub equal_keys_equal_stats-requires : goal.equal_keys_equal_stats-requires
equal_keys_equal_stats-requires g c =
    ap keys_of (c.in-Ok.ensures.pairs ∙ sym (c.put_in_any_order.ensures _ _ c.requires.ascending c.requires.permutation)
    ∙ sym c.in-Ok-inserted_tree.ensures.pairs)

pub returns-in-Ok-equal_keys_equal_stats-clause-pairs :
    goal.returns-in-Ok-equal_keys_equal_stats-clause-pairs
returns-in-Ok-equal_keys_equal_stats-clause-pairs g c =
    c.in-Ok-inserted_tree.ensures.pairs ∙ c.put_in_any_order.ensures _ _ c.requires.ascending c.requires.permutation
    ∙ sym c.in-Ok.ensures.pairs
