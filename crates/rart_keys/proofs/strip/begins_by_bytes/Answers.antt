use Rattle.std.proofs.lemmas.Bool.{leb-true, le-leb}
use Rattle.rart_keys.proofs.strings.SharedBeginnings.{begins-shared, shared-begins}
use Rattle.rart_keys.proofs.strip.begins_by_bytes.Goals as goal

pub returns : goal.returns
returns c = (
  (λ t. begins-shared _ c.args.key.now _ c.prefix_length_bytes.ensures.value (leb-true _ _ t)),
  (λ s. le-leb _ _ (shared-begins _ c.args.key.now _ c.prefix_length_bytes.ensures.value c.requires s)),
)
