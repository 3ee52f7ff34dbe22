use Rattle.rart_keys.specs.ArrayKeyBytes.{array_key_bytes}
use Rattle.rart_nodes.specs.ranges.UpperBounds.{down_to}
use Rattle.rart_c.proofs.Batches.{batch-of, shows}
use Rattle.rart_c.proofs.map32.batches.write_range_descending.Goals as goal

pub returns-clause-batch : goal.returns-clause-batch
returns-clause-batch c =
    batch-of c.in_ok-walk.ensures.pairs (c.write_batch.ensures _ (shows (λ p. (array_key_bytes p.0, p.1.now))
    (λ r. down_to r.0 r.1) c.in_ok-walk.walk))
