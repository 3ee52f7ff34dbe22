-- How a text's lines follow from its first line and the rest.
use Rattle.std.proofs.Common.{◌≡◌, ℕ, ◌+◌, ◌-◌, ◌<◌, ◌≤◌, Bool, false, List, [], ◌∷◌, length, take, drop, Some, None}
use Rattle.std.proofs.Common.{arith}
use Rattle.std.specs.Prelude.{◌==◌, position}
use Rattle.std.specs.List.{position_or_len}
use Rattle.std.proofs.lemmas.List.{take_rest}
use Rattle.std.proofs.lemmas.List.Elements.{All-from_get_or}
use Rattle.std.proofs.lemmas.List.Splits.{slice_split_first, slice_split_none, length-slice_split}
use Rattle.std.proofs.lemmas.List.Sums.{fails_before_first, count_by-le-length}
use Rattle.std.proofs.lemmas.Bool.Decides.{nat_tests}
use Rattle.rart_lines.specs.Lines.{lines_of}

abbrev is_newline : ℕ → Bool
is_newline b = b == 10

found : (text : List ℕ) (end : ℕ) → position is_newline text ≡ Some end
    → (position_or_len is_newline text < length text) × (position_or_len is_newline text ≡ end)
found text end e = grind (arith, nat_tests)

missing : (text : List ℕ) → position is_newline text ≡ None → length text ≤ position_or_len is_newline text
missing text e = grind (arith, nat_tests)

pub first_line : (text : List ℕ) (end : ℕ) → position is_newline text ≡ Some end
    → lines_of text ≡ take end text ∷ lines_of (take (length text - (end + 1)) (drop (end + 1) text))
first_line text end e =
    let f = found text end e in
    let at = f.1 in
    rw (take_rest text (end + 1), ← at) (slice_split_first is_newline text 0 f.0)

pub only_line : (text : List ℕ) → position is_newline text ≡ None → lines_of text ≡ text ∷ []
only_line text e =
    let m = missing text e in
    slice_split_none is_newline text (All-from_get_or (λ b. is_newline b ≡ false) text 0
    (λ i l. fails_before_first is_newline text i 0 (omega arith)))

pub line_count : (text : List ℕ) → length (lines_of text) ≤ length text + 1
line_count text = omega (arith, length-slice_split is_newline text, count_by-le-length is_newline text)
