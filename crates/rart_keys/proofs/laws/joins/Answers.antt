use Rattle.rart_keys.proofs.maps.JoinLengths.{apart-from_length, keys-from_length, length-from_apart, length-from_keys}
use Rattle.rart_keys.proofs.maps.JoinsOfMaps.{join-ascends, lookup-join, few-joined, join-swapped}
use Rattle.rart_keys.proofs.laws.joins.Goals as goal

pub returns : goal.returns
returns g c = record {
  ascending = join-ascends;
  looks = lookup-join;
  join_length = few-joined;
  whole = λ l m. (keys-from_length l m, length-from_keys l m);
  apart = λ l m. (apart-from_length l m, length-from_apart l m);
  other_way = join-swapped;
}
