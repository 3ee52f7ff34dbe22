use Rattle.rart_keys.proofs.strings.KeyComparisons.{terminated_keys}
use Rattle.rart_keys.proofs.laws.key_order.compared_terminated_keys.Goals as goal

pub returns : goal.returns
returns g c = terminated_keys _ _ _ c.compared_keys.ensures _ _ c.new_from_str_terminated.ensures
    c.new_from_str_terminated-2.ensures
