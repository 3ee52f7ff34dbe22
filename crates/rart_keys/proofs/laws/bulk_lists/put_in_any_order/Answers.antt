use Rattle.rart_keys.proofs.maps.PutAllLemmas.{any-order}
use Rattle.rart_keys.proofs.laws.bulk_lists.put_in_any_order.Goals as goal

pub returns : goal.returns
returns g c = any-order
