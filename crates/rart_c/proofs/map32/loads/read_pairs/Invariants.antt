use Rattle.std.proofs.Common.{◌≡◌, ◌++◌, length, map}
use Rattle.rart_keys.specs.ArrayKeyBytes.{array_key_bytes}
use Rattle.rart.specs.Steps.{pairs_in}
use Rattle.rart_c.specs.Loads.{AreWithin}
use Rattle.rart_c.specs.Pairs32.{pair_in}
use Rattle.rart_c.proofs.map32.loads.read_pairs.Given as goal

abbrev pub invariant-loop-pair : goal.invariant-loop-pair
invariant-loop-pair l = record {
  read : pairs_in array_key_bytes l.items.items ++ map pair_in l.rest ≡ map pair_in l.pairs;
  fit : AreWithin 32 (map (λ p. p.len) l.rest);
}

abbrev pub decreases-loop-pair : goal.decreases-loop-pair
decreases-loop-pair l = length l.rest
