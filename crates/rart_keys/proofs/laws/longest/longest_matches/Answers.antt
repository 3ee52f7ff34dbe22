use Rattle.rart_keys.proofs.maps.LongestMatchLemmas.{longest-put, shorter-put, elsewhere-put, elsewhere-without}
use Rattle.rart_keys.proofs.laws.longest.longest_matches.Goals as goal

pub returns : goal.returns
returns g c = record {
  put_longest = longest-put;
  put_shorter = shorter-put;
  put_elsewhere
      = elsewhere-put;
  without_elsewhere = elsewhere-without;
}
