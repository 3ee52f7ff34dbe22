use Rattle.rart_keys.specs.ArrayKeyBytes.{array_key_bytes}
use Rattle.rart_tests.proofs.LoadLemmas.{slice-ascends}
use Rattle.rart_tests.proofs.bulk.read_with_refusal.Goals as goal

pub bulk_load_sorted_unique-loaded-requires : goal.bulk_load_sorted_unique-loaded-requires
bulk_load_sorted_unique-loaded-requires c s given = (
  tt,
  tt,
  rw given (slice-ascends array_key_bytes (λ s. s.items.now) c.ascending_pairs.ensures.beginning _
      c.requires),
)
