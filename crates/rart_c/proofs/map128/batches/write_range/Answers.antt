use Rattle.rart_keys.specs.ArrayKeyBytes.{array_key_bytes}
use Rattle.rart_keys.specs.Ranges.{up_to}
use Rattle.rart_c.proofs.Batches.{batch-of, shows}
use Rattle.rart_c.proofs.map128.batches.write_range.Goals as goal

pub returns-clause-batch : goal.returns-clause-batch
returns-clause-batch c =
    batch-of c.in_ok-walk.ensures.pairs (c.write_batch.ensures _ (shows (λ p. (array_key_bytes p.0, p.1.now))
    (λ r. up_to r.0 r.1) c.in_ok-walk.walk))
