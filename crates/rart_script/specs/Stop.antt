-- What the program says and answers where a script ends before its last line.
use Rattle.std.specs.Prelude.{ℕ, [], ◌∷◌, ◌++◌, List, Option, codes, decimal}
use Rattle.std.specs.Io.KnownBytes.{Appends}
use Rattle.rart_script.specs.declared.stop.Stop.{Stop}
use Rattle.rart_script.specs.declared.stop.Stop.TheVariants.{BadCommand, CannotRead, CannotWrite}

-- the status of the process
abbrev pub status_of : Stop → ℕ
status_of (BadCommand line) = 2
status_of CannotRead = 1
status_of CannotWrite = 1

-- what is said, without the newline
abbrev pub message_of : Stop → List ℕ
message_of (BadCommand line) = codes "line " ++ decimal line ++ codes ": bad command"
message_of CannotRead = codes "rart_script: cannot read"
message_of CannotWrite = codes "rart_script: cannot write"

-- a writer's known bytes grow by the line that names the stop
abbrev pub IsSaid : Option (List ℕ) → Option (List ℕ) → Stop → Type 0
IsSaid old new stop = Appends old new (message_of stop ++ 10 ∷ [])
