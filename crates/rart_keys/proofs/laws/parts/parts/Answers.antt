use Rattle.std.proofs.Common.{◌&&◌, not, ap}
use Rattle.rart_keys.specs.ByteStrings.{begins}
use Rattle.rart_keys.specs.Ranges.{is_from, is_to}
use Rattle.rart_keys.proofs.maps.PartLemmas.{ascending-filter, lookup-after, lookup-before, lookup-failed}
use Rattle.rart_keys.proofs.maps.PartLemmas.{lookup-inside, lookup-passed}
use Rattle.rart_keys.proofs.laws.parts.parts.Goals as goal

pub returns : goal.returns
returns g c = record {
  below_inside = λ p. lookup-passed (begins p);
  below_outside = λ p. lookup-failed (begins p);
  below_ascends = λ p. ascending-filter (begins p);
  without_prefix_inside = λ p k es h. lookup-failed (λ l. not (begins p l)) k es (ap not h);
  without_prefix_outside = λ p k es h. lookup-passed (λ l. not (begins p l)) k es (ap not h);
  without_prefix_ascends = λ p. ascending-filter (λ l. not (begins p l));
  between_inside = lookup-inside;
  between_before = lookup-before;
  between_after = lookup-after;
  between_ascends = λ a b. ascending-filter (λ l. is_from a l && is_to b l);
}
