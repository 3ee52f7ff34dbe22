-- The lines of a text.
use Rattle.std.specs.Prelude.{ℕ, ◌==◌, List, [], None, Some}
use Rattle.std.specs.List.{slice_split}
use Rattle.rart_lines.specs.declared.lines.Lines.{Lines}

-- the parts of a text between its newlines
abbrev pub lines_of : List ℕ → List (List ℕ)
lines_of text = slice_split (λ b. b == 10) text

-- the lines that are still to come
abbrev pub lines_left : Lines → List (List ℕ)
lines_left lines = elim lines.rest [ None ↦ [] | Some text ↦ lines_of text.now ]
