use Rattle.rart_keys.proofs.strings.KeyComparisons.{text_keys}
use Rattle.rart_keys.proofs.laws.key_order.compared_text_keys.Goals as goal

pub returns : goal.returns
returns g c = text_keys _ _ _ c.compared_keys.ensures _ _ c.new_from_str.ensures c.new_from_str-2.ensures
