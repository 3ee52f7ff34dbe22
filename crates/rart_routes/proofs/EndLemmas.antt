-- How a run comes to its end.
use Rattle.std.proofs.Common.{◌≡◌, ◌≢◌, ℕ, ◌+◌, ◌++◌, Bool, true, false, List, [], ◌∷◌, length, Option, Some, None}
use Rattle.std.proofs.Common.{refl, sym, ap, subst, ◌∙◌, append-nil}
use Rattle.std.specs.Prelude.{Ok, Err, MatchBool}
use Rattle.std.specs.List.{enumerate_from}
use Rattle.std.specs.Io.KnownBytes.{Appends, Keeps}
use Rattle.std.proofs.lemmas.List.FromFn.{length-enumerate_from}
use Rattle.std.proofs.lemmas.Option.{slice_get-get_or}
use Rattle.rart_lines.specs.Lines.{lines_of}
use Rattle.rart_lines.specs.Runs as runs
use Rattle.rart_lines.specs.Words.{words_of}
use Rattle.rart_lines.proofs.RunLemmas.{HasRun, IsNext, is_line, lines-next}
use Rattle.rart_routes.specs.Answers.{PrintsAnswer}
use Rattle.rart_routes.specs.Command.{IsCommand}
use Rattle.rart_routes.specs.Script.{Ends, IsAnswered, IsAnsweredOrBad, IsBadLine, IsReported}
use Rattle.rart_routes.specs.Stop.{IsSaid, message_of}
use Rattle.rart_routes.specs.Tables.{no_routes}
use Rattle.rart_routes.specs.declared.command.Command.{Command}
use Rattle.rart_routes.specs.declared.mode.Mode.{Mode}
use Rattle.rart_routes.specs.declared.mode.Mode.TheVariants.{EndAtBad, KeepGoing}
use Rattle.rart_routes.specs.declared.stop.LineError.{LineError}
use Rattle.rart_routes.specs.declared.stop.Stop.TheVariants.{BadLine}
use Rattle.rart_routes.specs.declared.tables.Tables.{Tables}

-- an unchanged output grew by nothing
pub Appends-kept : (a b : Option (List ℕ)) → Keeps a b → Appends a b []
Appends-kept None b h = tt
Appends-kept (Some xs) None h = absurd h
Appends-kept (Some xs) (Some ys) h = h ∙ sym (append-nil xs)

pub Keeps-same : (a : Option (List ℕ)) → Keeps a a
Keeps-same None = tt
Keeps-same (Some xs) = refl

pub goes_on : (mode : Mode) → mode ≢ EndAtBad → mode ≡ KeepGoing
goes_on EndAtBad h = absurd (h refl)
goes_on KeepGoing h = refl

-- some line is malformed
abbrev pub HasBad : List ℕ → Type 0
HasBad text = (n : ℕ) × ((error : LineError) × IsBadLine text n error)

-- what a run did by line n: before a malformed line (false), or after one
pub record HasRunTo (mode : Mode) (has_bad : Bool) (text : List ℕ) (n : ℕ) (tables : Tables)
    (old new said_old said_new : Option (List ℕ)) : Type 0 where
  pub so_far : MatchBool has_bad ((mode ≡ KeepGoing) × HasBad text)
      (HasRun IsAnswered no_routes text n tables old new × Keeps said_old said_new)
  pub answers : HasRun IsAnsweredOrBad no_routes text n tables old new
  pub reports : HasRun IsReported 0 text n n said_old said_new

-- so far, after a line that is answered
answered : (mode : Mode) (has_bad : Bool) (text : List ℕ) (n index : ℕ) (line : List ℕ) (tables after : Tables)
    (answer : List ℕ) (a b c s t : Option (List ℕ)) → IsNext text n index line → IsAnswered line tables answer after
    → Appends b c answer
    → MatchBool has_bad ((mode ≡ KeepGoing) × HasBad text)
    (HasRun IsAnswered no_routes text n tables a b × Keeps s t)
    → MatchBool has_bad ((mode ≡ KeepGoing) × HasBad text)
    (HasRun IsAnswered no_routes text (n + 1) after a c × Keeps s t)
answered mode true text n index line tables after answer a b c s t next step more h = h
answered mode false text n index line tables after answer a b c s t next step more h
    = (lines-next IsAnswered no_routes text n index line tables after answer a b c next h.0 step more, h.1)

-- the next line is a command
pub run-answers : (mode : Mode) (has_bad : Bool) (text : List ℕ) (n index : ℕ) (line : List ℕ) (command : Command)
    (tables after : Tables) (answer : List ℕ) (a b c s t : Option (List ℕ)) → IsNext text n index line
    → IsCommand (words_of line) (Ok command) → PrintsAnswer command tables answer after → Appends b c answer
    → HasRunTo mode has_bad text n tables a b s t → HasRunTo mode has_bad text (n + 1) after a c s t
run-answers mode has_bad text n index line command tables after answer a b c s t next is step more h = record {
  so_far = answered mode has_bad text n index line tables after answer a b c s t next
      (record { command = command; is_command = is; step = step }) more h.so_far;
  answers = lines-next IsAnsweredOrBad no_routes text n index line tables after answer a b c next h.answers
      (record { result = Ok command; is_result = is; step = step }) more;
  reports = lines-next IsReported 0 text n index line n (n + 1) [] s t t next h.reports
      (record { result = Ok command; is_result = is; says = refl; counts = refl }) (Appends-kept t t (Keeps-same t));
}

-- the next line is malformed
is_bad-next : (text : List ℕ) (n index : ℕ) (line : List ℕ) (error : LineError) → IsNext text n index line
    → IsCommand (words_of line) (Err error) → IsBadLine text n error
is_bad-next text n index line error next is =
    let k = is_line text n index line next in
    record {
      line = line;
      here = slice_get-get_or (lines_of text) n [] k.below ∙ ap (λ l. Some l) (sym k.here);
      is_bad = is;
    }

-- it is reported
pub run-reports : (mode : Mode) (has_bad : Bool) (text : List ℕ) {n index : ℕ} {line : List ℕ} (error : LineError)
    {tables : Tables} {a b c s t u : Option (List ℕ)} → IsNext text n index line
    → IsCommand (words_of line) (Err error) → mode ≡ KeepGoing → Keeps b c → IsSaid t u (BadLine (index + 1) error)
    → HasRunTo mode has_bad text n tables a b s t → HasRunTo mode true text (n + 1) tables a c s u
run-reports mode has_bad text {n} {index} {line} error {tables} {a} {b} {c} {s} {t} {u} next is goes kept says h =
    let k = is_line text n index line next in
    record {
      so_far = (goes, (n, (error, is_bad-next text n index line error next is)));
      answers = lines-next IsAnsweredOrBad no_routes text n index line tables tables [] a b c next h.answers
          (record { result = Err error; is_result = is; step = (refl, refl) }) (Appends-kept b c kept);
      reports = lines-next IsReported 0 text n index line n (n + 1) _ s t u next h.reports
          (record {
            result = Err error;
            is_result = is;
            says = ap (λ m. message_of (BadLine (m + 1) error) ++ 10 ∷ []) k.number;
            counts = refl;
          }) says;
    }

-- it ends the run
pub ends-at_bad : (mode : Mode) (has_bad : Bool) (text : List ℕ) {n index : ℕ} {line : List ℕ} {error : LineError}
    {tables : Tables} {a b s t : Option (List ℕ)} → IsNext text n index line → IsCommand (words_of line) (Err error)
    → mode ≡ EndAtBad → HasRunTo mode has_bad text n tables a b s t
    → Ends mode text (Err (BadLine (index + 1) error)) a b s t
ends-at_bad mode true text {n} {index} {line} {error} {tables} {a} {b} {s} {t} next is ends h =
    let goes : mode ≡ KeepGoing = h.so_far.0 in absurd (cc)
ends-at_bad mode false text {n} {index} {line} {error} {tables} {a} {b} {s} {t} next is ends h =
    let k = is_line text n index line next in
    let all = h.so_far.0 in (
      ends,
      (
        n,
        (
          ap (λ m. m + 1) k.number,
          (is_bad-next text n index line error next is, (tables, (all.printed, (all.run, all.appends)))),
        ),
      ),
      h.so_far.1,
    )

-- what was printed when no line is left
all_printed : {S : Type 0} (Step : List ℕ → S → List ℕ → S → Type 0) (first : S) (text : List ℕ) (n : ℕ) (state : S)
    (a b : Option (List ℕ)) → n ≡ length (enumerate_from 0 (lines_of text)) → HasRun Step first text n state a b
    → runs.PrintsAll Step first text a b
all_printed Step first text n state a b e h =
    let all = subst (λ m. HasRun Step first text m state a b) (e ∙ length-enumerate_from 0 (lines_of text)) h in
    (state, (all.printed, (all.run, all.appends)))

-- no line is left
pub ends-well : (mode : Mode) (has_bad : Bool) (text : List ℕ) (n : ℕ) (tables : Tables)
    (a b s t : Option (List ℕ)) → n ≡ length (enumerate_from 0 (lines_of text))
    → HasRunTo mode has_bad text n tables a b s t → Ends mode text (Ok has_bad) a b s t
ends-well mode true text n tables a b s t e h = (
  h.so_far.0,
  record {
    has_bad = h.so_far.1;
    answers = all_printed IsAnsweredOrBad no_routes text n tables a b e h.answers;
    reports = all_printed IsReported 0 text n n s t e h.reports;
  },
)
ends-well mode false text n tables a b s t e h
    = (all_printed IsAnswered no_routes text n tables a b e h.so_far.0, h.so_far.1)
