use Rattle.std.proofs.Common.{◌≡◌, ◌+◌, length, map}
use Rattle.rart_c.specs.Loads.{first_too_long, first_too_long_from}
use Rattle.rart_c.proofs.map32.loads.too_long_in.Given as goal

abbrev pub invariant-loop-pair : goal.invariant-loop-pair
invariant-loop-pair l = record {
  place : l.at + length l.rest ≡ length l.pairs;
  same : first_too_long_from l.at 32 (map (λ p. p.len) l.rest) ≡ first_too_long 32 (map (λ p. p.len) l.pairs);
}

abbrev pub decreases-loop-pair : goal.decreases-loop-pair
decreases-loop-pair l = length l.rest
