use Rattle.rart_keys.specs.ArrayKeyBytes.{array_key_bytes}
use Rattle.rart_c.proofs.Batches.{batch-of, shows}
use Rattle.rart_c.proofs.map32.batches.write_matches.Goals as goal

pub returns : goal.returns
returns c =
    batch-of c.prefix_match_iter_k.ensures (c.write_batch.ensures _ (shows (λ p. (array_key_bytes p.0, p.1.now))
    (λ rest. rest) c.prefix_match_iter_k.result))
