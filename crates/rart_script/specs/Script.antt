-- Which lines a script runs.
use Rattle.std.specs.Prelude.{◌≡◌, ℕ, ◌+◌, Bool, not, List, [], Option, Some}
use Rattle.std.specs.Prelude.{⊤, Result, MatchResult, position}
use Rattle.std.specs.Option.{option_map, is_some}
use Rattle.rart_script.specs.Answers.{PrintsReply}
use Rattle.rart_script.specs.Command.{requested_call, command_of}
use Rattle.rart_lines.specs.Lines.{lines_of}
use Rattle.rart_lines.specs.Runs as runs
use Rattle.rart_lines.specs.Words.{words_of}
use Rattle.rart_script.specs.declared.command.Command.{Command}
use Rattle.rart_script.specs.declared.stop.Stop.{Stop}
use Rattle.rart_script.specs.declared.stop.Stop.TheVariants.{BadCommand, CannotRead, CannotWrite}

-- whether a line is no command
abbrev pub is_malformed : List ℕ → Bool
is_malformed line = not (is_some (command_of (words_of line)))

-- the number of the first malformed line, counted from 1
abbrev pub bad_line : List ℕ → Option ℕ
bad_line text = option_map (λ index. index + 1) (position is_malformed (lines_of text))

-- a run of the text may stop so
abbrev pub StopsAt : List ℕ → Stop → Type 0
StopsAt text (BadCommand line) = bad_line text ≡ Some line
StopsAt text CannotRead = ⊤
StopsAt text CannotWrite = ⊤

-- the line is a command, which prints this on the map old, and leaves the map new
pub record IsAnswered (line : List ℕ) (old : List (List ℕ × ℕ)) (answer : List ℕ)
    (new : List (List ℕ × ℕ)) : Type 0 where
  pub command : Command
  pub is_command : command_of (words_of line) ≡ Some (requested_call command)
  pub step : PrintsReply command old answer new

-- the first n lines of the text are commands; on an empty map they print this and leave this map
abbrev pub RunsLines : List ℕ → ℕ → List (List ℕ × ℕ) → List ℕ → Type 0
RunsLines text n map printed = runs.RunsLines IsAnswered [] text n map printed

-- an output grew by what the first n lines print
abbrev pub PrintsFirst : List ℕ → Option (List ℕ) → Option (List ℕ) → ℕ → Type 0
PrintsFirst text old new n = runs.PrintsFirst IsAnswered [] text old new n

-- an output grew by what all lines print
abbrev pub PrintsAll : List ℕ → Option (List ℕ) → Option (List ℕ) → Type 0
PrintsAll text old new = runs.PrintsAll IsAnswered [] text old new

-- before a malformed line an output grew by what the lines before it print
abbrev pub PrintsUpTo : List ℕ → Option (List ℕ) → Option (List ℕ) → Stop → Type 0
PrintsUpTo text old new (BadCommand line) = (n : ℕ) × ((line ≡ n + 1) × PrintsFirst text old new n)
PrintsUpTo text old new CannotRead = ⊤
PrintsUpTo text old new CannotWrite = ⊤

-- a run that ended so printed all, or what comes before its end
abbrev pub Prints : List ℕ → Result Unit Stop → Option (List ℕ) → Option (List ℕ) → Type 0
Prints text result old new = MatchResult result (λ _. PrintsAll text old new) (PrintsUpTo text old new)

-- a line is malformed, and an output grew by what the lines before it print
abbrev pub PrintsToBad : List ℕ → Option (List ℕ) → Option (List ℕ) → Type 0
PrintsToBad text old new = (n : ℕ) × ((bad_line text ≡ Some (n + 1)) × PrintsFirst text old new n)
