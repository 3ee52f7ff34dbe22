use Rattle.std.proofs.Common.{refl}
use Rattle.rart_keys.specs.ArrayKeyBytes.{array_key_bytes}
use Rattle.rart_tests.proofs.LoadLemmas.{below-each, can-always}
use Rattle.rart_tests.proofs.loads.load_counting.Goals as goal

pub bulk_load_sorted_unique_by_index-requires : goal.bulk_load_sorted_unique_by_index-requires
bulk_load_sorted_unique_by_index-requires g c κs = (
  (refl, tt),
  (
    (λ i l few. l),
    (
      (λ i j k l a b few p q. below-each array_key_bytes
          c.ascending_pairs.ensures.any_two c.args.items.now i j k.now l.now p q c.requires.ascending a b),
      λ few.
          can-always _ _ c.requires.callable 0 _ _,
    ),
  ),
)
