use Rattle.rart_keys.proofs.maps.BulkListLemmas.{fault-there, fault-first, fault-none, last_wins-ascends}
use Rattle.rart_keys.proofs.maps.BulkListLemmas.{lookup-last_wins}
use Rattle.rart_keys.proofs.maps.BulkListLemmas.{strict-faultless, strict-stays}
use Rattle.rart_keys.proofs.laws.bulk_lists.bulk_lists.Goals as goal

pub returns : goal.returns
returns g c = record {
  is_fault = fault-there;
  is_first = fault-first;
  no_fault = fault-none;
  ascending = last_wins-ascends;
  last_values = lookup-last_wins;
  strict_faultless = strict-faultless;
  strict_stays = strict-stays;
}
