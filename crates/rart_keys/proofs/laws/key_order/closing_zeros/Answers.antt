use Rattle.rart_keys.proofs.strings.ByteOrder.{slice_cmp-closed}
use Rattle.rart_keys.proofs.laws.key_order.closing_zeros.Goals as goal

pub returns : goal.returns
returns g = slice_cmp-closed
