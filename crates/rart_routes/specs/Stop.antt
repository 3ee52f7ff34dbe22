-- What the program says of a malformed line, and where a script ends before its last line.
use Rattle.std.specs.Prelude.{ℕ, [], ◌∷◌, ◌++◌, List, Option, codes, decimal}
use Rattle.std.specs.Io.KnownBytes.{Appends}
use Rattle.rart_cidr.specs.Texts.{parse_error_text}
use Rattle.rart_routes.specs.declared.stop.LineError.{LineError}
use Rattle.rart_routes.specs.declared.stop.LineError.TheVariants.{Command, Network, Target}
use Rattle.rart_routes.specs.declared.stop.Stop.{Stop}
use Rattle.rart_routes.specs.declared.stop.Stop.TheVariants.{BadLine, CannotRead, CannotWrite}

-- the status of the process
abbrev pub status_of : Stop → ℕ
status_of (BadLine line error) = 2
status_of CannotRead = 1
status_of CannotWrite = 1

-- what is wrong with a line
abbrev pub error_text : LineError → List ℕ
error_text Command = codes "bad command"
error_text (Network error) = parse_error_text error
error_text Target = codes "target too long"

-- what is said, without the newline
abbrev pub message_of : Stop → List ℕ
message_of (BadLine line error) = codes "line " ++ decimal line ++ codes ": " ++ error_text error
message_of CannotRead = codes "rart_routes: cannot read"
message_of CannotWrite = codes "rart_routes: cannot write"

-- a writer's known bytes grow by the line that names the stop
abbrev pub IsSaid : Option (List ℕ) → Option (List ℕ) → Stop → Type 0
IsSaid old new stop = Appends old new (message_of stop ++ 10 ∷ [])
