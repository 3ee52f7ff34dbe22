use Rattle.std.proofs.Common.{◌≡◌, false}
use Rattle.rart_keys.specs.ArrayKeyBytes.{array_key_bytes}
use Rattle.rart_c.specs.Pairs32.{pair_in}
use Rattle.rart_c.proofs.Batches.{IsFilled}
use Rattle.rart_c.proofs.map32.pairs.write_batch.Given as goal

abbrev pub invariant-loop-key : goal.invariant-loop-key
invariant-loop-key g l = record {
  can : (goal.iterator-loop-key g).can_next l.key-iterator;
  finite : (goal.iterator-loop-key g).is_finite l.key-iterator;
  filled : IsFilled pair_in (λ p. (array_key_bytes p.0, p.1.now)) l.fn.out l.out l.number l.yielded;
  not_full : l.is_full ≡ false;
}
