use Rattle.std.proofs.Common.{◌∙◌}
use Rattle.rart_keys.specs.ArrayKeyBytes.{array_key_bytes}
use Rattle.rart_tests.proofs.LoadLemmas.{vec-ascends}
use Rattle.rart_tests.proofs.loads.load_unique.Goals as goal

pub bulk_load_sorted_unique-requires : goal.bulk_load_sorted_unique-requires
bulk_load_sorted_unique-requires g c s given = (
  tt,
  tt,
  vec-ascends array_key_bytes c.ascending_pairs.ensures.beginning s c.args.items.items given.0 (given.1
      ∙ c.args.items.ok.0) c.requires,
)
