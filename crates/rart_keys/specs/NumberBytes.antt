-- Numbers as bytes of keys.
use Rattle.std.specs.Prelude.{ℕ, ◌+◌, ◌-◌, ◌^◌, List, ℤ, pos, negsuc}
use Rattle.std.specs.Int.{Width}
use Rattle.std.specs.Int.Digits.{number_from_digits}
use mir.Val.{hbits}

-- a signed number with its sign bit flipped, as an unsigned one: the least gives 0, and the next
-- the next
abbrev pub sign_flipped : Width → ℤ → ℕ
sign_flipped w (pos n) = 2 ^ hbits w + n
sign_flipped w (negsuc n) = 2 ^ hbits w - (n + 1)

-- the number that the bytes write in base 256, the highest digit first
abbrev pub big_endian_number : List ℕ → ℕ
big_endian_number bs = number_from_digits 256 bs
