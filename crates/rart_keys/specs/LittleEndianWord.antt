use Rattle.std.specs.Prelude.{ℕ, ◌+◌, ◌*◌, ◌^◌, List, [], ◌∷◌}

-- the number that the bytes write in base 256, the lowest digit first
abbrev pub little_endian_number : List ℕ → ℕ
little_endian_number [] = 0
little_endian_number (b ∷ bs) = little_endian_number bs * 2 ^ 8 + b
