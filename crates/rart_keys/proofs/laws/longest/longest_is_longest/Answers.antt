use Rattle.rart_keys.proofs.maps.LongestStored.{lengths-ascend, longest-stored, no-match, stored-longest}
use Rattle.rart_keys.proofs.laws.longest.longest_is_longest.Goals as goal

pub returns : goal.returns
returns g c = record {
  longest_match = longest-stored;
  only = stored-longest;
  none = no-match;
  lengths =
      lengths-ascend;
}
