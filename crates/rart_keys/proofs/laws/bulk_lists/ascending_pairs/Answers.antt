use Rattle.rart_keys.proofs.maps.PutAllLemmas.{ascends-on, begun-ascends, below-later}
use Rattle.rart_keys.proofs.laws.bulk_lists.ascending_pairs.Goals as goal

pub returns : goal.returns
returns g c = record {
  one_more = ascends-on;
  beginning = begun-ascends;
  any_two = below-later;
}
