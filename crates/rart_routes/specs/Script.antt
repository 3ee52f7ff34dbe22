-- What a script prints, what is said of its malformed lines, and where it ends.
use Rattle.std.specs.Prelude.{◌≡◌, ℕ, ◌+◌, Bool, true, false, [], List, Option, Some, Result, Ok, Err, slice_get, ⊤}
use Rattle.std.specs.Prelude.{◌∷◌, ◌++◌}
use Rattle.std.specs.Io.KnownBytes.{Keeps}
use Rattle.rart_lines.specs.Lines.{lines_of}
use Rattle.rart_lines.specs.Runs as runs
use Rattle.rart_lines.specs.Words.{words_of}
use Rattle.rart_routes.specs.Answers.{PrintsAnswer}
use Rattle.rart_routes.specs.Command.{IsCommand}
use Rattle.rart_routes.specs.Stop.{IsSaid, message_of}
use Rattle.rart_routes.specs.Tables.{no_routes}
use Rattle.rart_routes.specs.declared.command.Command.{Command}
use Rattle.rart_routes.specs.declared.mode.Mode.{Mode}
use Rattle.rart_routes.specs.declared.mode.Mode.TheVariants.{EndAtBad, KeepGoing}
use Rattle.rart_routes.specs.declared.stop.LineError.{LineError}
use Rattle.rart_routes.specs.declared.stop.Stop.{Stop}
use Rattle.rart_routes.specs.declared.stop.Stop.TheVariants.{BadLine, CannotRead, CannotWrite}
use Rattle.rart_routes.specs.declared.tables.Tables.{Tables}

-- the line is a command, which prints this on the tables old, and leaves the tables new
pub record IsAnswered (line : List ℕ) (old : Tables) (answer : List ℕ) (new : Tables) : Type 0 where
  pub command : Command
  pub is_command : IsCommand (words_of line) (Ok command)
  pub step : PrintsAnswer command old answer new

-- an output grew by what all lines print, each answered on the tables that the line before it left
abbrev pub PrintsAll : List ℕ → Option (List ℕ) → Option (List ℕ) → Type 0
PrintsAll text old new = runs.PrintsAll IsAnswered no_routes text old new

-- after n lines comes one that is malformed in this way
pub record IsBadLine (text : List ℕ) (n : ℕ) (error : LineError) : Type 0 where
  pub line : List ℕ
  pub here : slice_get (lines_of text) n ≡ Some line
  pub is_bad : IsCommand (words_of line) (Err error)

-- after n lines comes a malformed one, and an output grew by what the n lines print
abbrev pub PrintsToBad : List ℕ → ℕ → LineError → Option (List ℕ) → Option (List ℕ) → Type 0
PrintsToBad text n error old new = IsBadLine text n error × runs.PrintsFirst IsAnswered no_routes text old new n

-- a line is malformed, an output grew by what the lines before it print, and another by the message on it
abbrev pub EndsAtBad : List ℕ → Option (List ℕ) → Option (List ℕ) → Option (List ℕ) → Option (List ℕ) → Type 0
EndsAtBad text old new said_old said_new = (n : ℕ) × ((error : LineError)
    × (PrintsToBad text n error old new × IsSaid said_old said_new (BadLine (n + 1) error)))

-- what a command prints on the tables old, and which it leaves; a malformed line prints and changes nothing
abbrev pub PrintsAnswerOrNothing : Result Command LineError → Tables → List ℕ → Tables → Type 0
PrintsAnswerOrNothing (Ok command) old answer new = PrintsAnswer command old answer new
PrintsAnswerOrNothing (Err error) old answer new = (answer ≡ []) × (new ≡ old)

-- the line prints this on the tables old, and leaves the tables new, whether it is a command or malformed
pub record IsAnsweredOrBad (line : List ℕ) (old : Tables) (answer : List ℕ) (new : Tables) : Type 0 where
  pub result : Result Command LineError
  pub is_result : IsCommand (words_of line) result
  pub step : PrintsAnswerOrNothing result old answer new

-- what is said of the line of this number: nothing of a command
abbrev pub report_on : ℕ → Result Command LineError → List ℕ
report_on number (Ok command) = []
report_on number (Err error) = message_of (BadLine number error) ++ 10 ∷ []

-- this is said of a line that comes after `before` others; with it there are `after`
pub record IsReported (line : List ℕ) (before : ℕ) (report : List ℕ) (after : ℕ) : Type 0 where
  pub result : Result Command LineError
  pub is_result : IsCommand (words_of line) result
  pub says : report ≡ report_on (before + 1) result
  pub counts : after ≡ before + 1

-- an output grew by what all commands print, and another by the messages on the malformed lines; there is one
pub record PrintsPastBad (text : List ℕ) (old new said_old said_new : Option (List ℕ)) : Type 0 where
  pub has_bad : (n : ℕ) × ((error : LineError) × IsBadLine text n error)
  pub answers : runs.PrintsAll IsAnsweredOrBad no_routes text old new
  pub reports : runs.PrintsAll IsReported 0 text said_old said_new

-- what a run does at a malformed line, in each mode
abbrev pub MeetsBad : Mode → List ℕ → Option (List ℕ) → Option (List ℕ) → Option (List ℕ) → Option (List ℕ) → Type 0
MeetsBad EndAtBad text old new said_old said_new = EndsAtBad text old new said_old said_new
MeetsBad KeepGoing text old new said_old said_new = PrintsPastBad text old new said_old said_new

-- a run came to this end, whose message isn't written yet: after the last line, with malformed ones (true) or without
-- any, or at a malformed one
abbrev pub Ends : Mode → List ℕ → Result Bool Stop → Option (List ℕ) → Option (List ℕ) → Option (List ℕ)
    → Option (List ℕ) → Type 0
Ends mode text (Ok false) old new said_old said_new = PrintsAll text old new × Keeps said_old said_new
Ends mode text (Ok true) old new said_old said_new = (mode ≡ KeepGoing) × PrintsPastBad text old new said_old said_new
Ends mode text (Err (BadLine line error)) old new said_old said_new = (mode ≡ EndAtBad) × ((n : ℕ) × ((line ≡ n + 1)
    × PrintsToBad text n error old new)) × Keeps said_old said_new
Ends mode text (Err CannotRead) old new said_old said_new = ⊤
Ends mode text (Err CannotWrite) old new said_old said_new = ⊤
