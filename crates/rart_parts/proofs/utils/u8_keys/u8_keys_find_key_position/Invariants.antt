use Rattle.std.proofs.Common.{◌≡◌, ℕ, ◌<◌, false}
use Rattle.rart_parts.specs.Keys.{is_held}
use Rattle.rart_parts.proofs.utils.u8_keys.u8_keys_find_key_position.Given as goal

abbrev pub invariant-loop-place : goal.invariant-loop-place
invariant-loop-place g l = (k : ℕ) → k < l.place → is_held l.keys l.key (g.B.BitsetTrait.has l.bitset) k ≡ false
