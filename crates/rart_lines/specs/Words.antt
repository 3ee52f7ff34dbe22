-- The words of a line.
use Rattle.std.specs.Prelude.{ℕ, Bool, true, false, ◌==◌, ◌||◌, not, List, [], ◌∷◌, filter}
use Rattle.std.specs.List.{slice_split, prefix_len}

-- a space, a tab or a carriage return
abbrev pub is_separator : ℕ → Bool
is_separator b = (b == 32) || (b == 9) || (b == 13)

-- whether a part has a byte
abbrev pub is_nonempty : List ℕ → Bool
is_nonempty [] = false
is_nonempty (b ∷ bs) = true

-- the parts of a line between its separators, but for the empty ones
abbrev pub words_of : List ℕ → List (List ℕ)
words_of line = filter is_nonempty (slice_split is_separator line)

-- how many separators come before the first other byte
abbrev pub gap_len : List ℕ → ℕ
gap_len line = prefix_len is_separator line

-- how many bytes come before the first separator
abbrev pub word_len : List ℕ → ℕ
word_len line = prefix_len (λ b. not (is_separator b)) line
