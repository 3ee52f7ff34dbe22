use Rattle.rart_keys.specs.ArrayKeyBytes.{array_key_bytes}
use Rattle.rart_keys.proofs.strings.KeyComparisons.{tied_where_equal}
use Rattle.rart_keys.proofs.laws.key_order.equality_and_order.Goals as goal

pub returns-clause-ties : goal.returns-clause-ties
returns-clause-ties g c = tied_where_equal (array_key_bytes c.args.first.now) (array_key_bytes c.args.second.now) _ _
    c.eq.ensures c.cmp.ensures
