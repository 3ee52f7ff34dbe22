-- How the length of a part is read from its array and the two bytes beside it.
use Rattle.std.specs.Prelude.{ℕ, ◌+◌, ◌*◌, ◌==◌, Bool, true, false, if◌then◌else◌, nat_le, List, [], ◌∷◌}

-- whether a byte isn't zero
abbrev pub has_mark : List ℕ → Bool
has_mark [] = false
has_mark (b ∷ bs) = if b == 0 then has_mark bs else true

-- how many bytes are before the last that isn't zero
abbrev pub marked_length : List ℕ → ℕ
marked_length [] = 0
marked_length (b ∷ bs) = if has_mark bs then marked_length bs + 1 else 0

-- the code of a part in an array of `size` bytes is its length, if two bytes hold any such length. In a larger array 0
-- is the code of a part that fills it, and a mark follows any other part
abbrev pub part_length : ℕ → List ℕ → ℕ → ℕ
part_length size stored code = if nat_le size 65535 then code
    else if code == 0 then size else marked_length stored

-- the code in two bytes, the low one first
abbrev pub joined_code : ℕ → ℕ → ℕ
joined_code low high = low + high * 256
