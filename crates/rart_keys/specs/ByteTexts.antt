-- The text of a byte string.
use Rattle.std.specs.Prelude.{ℕ, ◌/◌, ◌%◌, ◌&&◌, ◌==◌, not, Bool, false, List, [], ◌∷◌, if◌then◌else◌}
use Rattle.std.specs.Fmt.{digit_glyph}
use Rattle.std.specs.Int.{is_in_range}
use Rattle.std.specs.List.{flat_map}

-- a printable byte of ASCII other than the backslash, 92
abbrev pub is_plain : ℕ → Bool
is_plain b = is_in_range 32 126 b && not (b == 92)

-- the byte itself, or `\xNN` with two small hex digits
abbrev pub byte_text : ℕ → List ℕ
byte_text b = if is_plain b then b ∷ []
    else 92 ∷ 120 ∷ digit_glyph false (b / 16) ∷ digit_glyph false (b % 16) ∷ []

-- the texts of the bytes, one after the other
abbrev pub key_text : List ℕ → List ℕ
key_text bs = flat_map byte_text bs
