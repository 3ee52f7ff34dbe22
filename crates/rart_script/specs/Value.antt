-- The values that words write.
use Rattle.std.specs.Prelude.{ℕ, ◌^◌, Bool, ◌&&◌, List, length, Option, Some, None, nat_lt, if◌then◌else◌}
use Rattle.std.specs.List.{list_all}
use Rattle.std.specs.Char.{is_ascii_digit}
use Rattle.std.specs.Str.Parse.{digits_value}

-- one or more decimal digits, of a number that fits 64 bits
abbrev pub writes_value : List ℕ → Bool
writes_value word = nat_lt 0 (length word) && list_all is_ascii_digit word && nat_lt (digits_value 10 word) (2 ^ 64)

-- the value that a word writes
abbrev pub value_of : List ℕ → Option ℕ
value_of word = if writes_value word then Some (digits_value 10 word) else None
