use Rattle.rart_keys.proofs.maps.SortedMaps.{equal_by_lookups, ascending-put, lookup-put_at, lookup-put_elsewhere}
use Rattle.rart_keys.proofs.maps.SortedMaps.{length-put, ascending-without, lookup-without_at, lookup-without_elsewhere}
use Rattle.rart_keys.proofs.maps.SortedMaps.{put-twice, without-put}
use Rattle.rart_keys.proofs.laws.sorted_map.Goals as goal

pub returns : goal.returns
returns g c = record {
  one_list = equal_by_lookups;
  put_ascends = ascending-put;
  put_at = lookup-put_at;
  put_elsewhere = lookup-put_elsewhere;
  put_twice = put-twice;
  put_length = length-put;
  without_ascends = ascending-without;
  without_at = lookup-without_at;
  without_elsewhere = lookup-without_elsewhere;
  put_then_without = without-put;
}
