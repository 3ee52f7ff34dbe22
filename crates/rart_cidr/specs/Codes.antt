-- Codes in the order of the bits that they encode.
use Rattle.std.specs.Prelude.{◌==◌, ℕ, zero, suc, ◌+◌, ◌-◌, ◌*◌, ◌/◌, ◌%◌, ◌^◌, List, [], ◌∷◌, length, if◌then◌else◌}
use Rattle.std.specs.Prelude.{nat_lt}
use Rattle.rart_cidr.specs.Bits.{code_bits}

-- the code whose bits come next after those of a code of seven bits: that of the bits before the last zero, with a one
-- for this zero
abbrev pub code_up : ℕ → ℕ → ℕ
code_up zero c = 0
code_up (suc n) c = if c % 2 == 0 then c + 1 else code_up n (c / 2)

-- the code whose bits come next, or 0 after the last
abbrev pub next_code : ℕ → ℕ
next_code c = if nat_lt c 128 then 2 * c else code_up 7 c

-- how many bits a code encodes, and the byte that begins with these, followed by zeros
abbrev pub length_of_code : ℕ → ℕ
length_of_code c = length (code_bits c)

abbrev pub byte_of_code : ℕ → ℕ
byte_of_code c = c * 2 ^ (8 - length (code_bits c)) % 256

-- one more than there are lists of at most n bits
unfoldable pub size : ℕ → ℕ
size zero = 2
size (suc n) = 2 * size n

-- how many lists of at most n bits come before a list of bits
unfoldable pub place : ℕ → List ℕ → ℕ
place n [] = 0
place zero (b ∷ l) = 0
place (suc n) (zero ∷ l) = suc (place n l)
place (suc n) (suc b ∷ l) = size n + place n l

-- how many codes come before a code
unfoldable pub code_place : ℕ → ℕ
code_place c = place 7 (code_bits c)
