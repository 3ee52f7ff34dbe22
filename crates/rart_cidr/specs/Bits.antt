-- Bits of bytes, the most significant first, and the codes of the first bits of a byte.
use Rattle.std.specs.Prelude.{◌≡◌, ℕ, zero, suc, ◌+◌, ◌-◌, ◌*◌, ◌/◌, ◌%◌, ◌^◌, ◌++◌, List, [], ◌∷◌, drop, length}
use Rattle.std.specs.Prelude.{replicate, take}

-- the bits of a byte
abbrev pub byte_bits : ℕ → List ℕ
byte_bits x =
    x / 128 % 2 ∷ x / 64 % 2 ∷ x / 32 % 2 ∷ x / 16 % 2 ∷ x / 8 % 2 ∷ x / 4 % 2 ∷ x / 2 % 2 ∷ x % 2 ∷ []

-- the bits of bytes
abbrev pub bits_of : List ℕ → List ℕ
bits_of [] = []
bits_of (x ∷ o) = byte_bits x ++ bits_of o

-- the network of the first n bits of the octets
abbrev pub network : List ℕ → ℕ → List ℕ
network o n = take n (bits_of o)

-- the code of the first r bits of the byte x: a one, followed by these bits
abbrev pub code : ℕ → ℕ → ℕ
code x r = 2 ^ r + x / 2 ^ (8 - r)

-- what follows the first one
abbrev pub after_one : List ℕ → List ℕ
after_one [] = []
after_one (zero ∷ l) = after_one l
after_one (suc b ∷ l) = l

-- the bits that a code encodes
abbrev pub code_bits : ℕ → List ℕ
code_bits c = after_one (byte_bits c)

-- the byte x with all but its first r bits cleared
abbrev pub masked_byte : ℕ → ℕ → ℕ
masked_byte x r = x / 2 ^ (8 - r) * 2 ^ (8 - r)

-- the octets with all but their first n bits cleared
abbrev pub masked_octets : List ℕ → ℕ → List ℕ
masked_octets [] n = []
masked_octets (x ∷ o) n = masked_byte x n ∷ masked_octets o (n - 8)

-- all but the first n bits are zeros
abbrev pub AreClearAfter : List ℕ → ℕ → Type 0
AreClearAfter bits n = drop n bits ≡ replicate (length bits - n) 0
