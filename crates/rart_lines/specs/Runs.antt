-- What is printed where the lines of a text are answered one after the other. Step says of a line and a state which
-- answer it may get, and which state it then leaves.
use Rattle.std.specs.Prelude.{◌≡◌, ℕ, zero, suc, List, [], ◌++◌, length, slice_index_or, Option}
use Rattle.std.specs.Io.KnownBytes.{Appends}
use Rattle.rart_lines.specs.Lines.{lines_of}

-- a state that a line leaves, and what was printed by then, where Before says so of the lines before it
pub record RunsNext {S : Type 0} (Step : List ℕ → S → List ℕ → S → Type 0) (line : List ℕ)
    (Before : S → List ℕ → Type 0) (state : S) (printed : List ℕ) : Type 0 where
  pub old : S
  pub earlier : List ℕ
  pub answer : List ℕ
  pub before : Before old earlier
  pub step : Step line old answer state
  pub prints : printed ≡ earlier ++ answer

-- the first n lines of the text, answered from a first state, print this and leave this state
abbrev pub RunsLines : {S : Type 0} → (List ℕ → S → List ℕ → S → Type 0) → S → List ℕ → ℕ → S → List ℕ → Type 0
RunsLines Step first text zero state printed = (state ≡ first) × (printed ≡ [])
RunsLines Step first text (suc n) state printed
    = RunsNext Step (slice_index_or (lines_of text) n []) (RunsLines Step first text n) state printed

-- an output grew by what the first n lines print
abbrev pub PrintsFirst : {S : Type 0} → (List ℕ → S → List ℕ → S → Type 0) → S → List ℕ → Option (List ℕ)
    → Option (List ℕ) → ℕ → Type 0
PrintsFirst {S} Step first text old new n = (state : S)
    × ((printed : List ℕ) × (RunsLines Step first text n state printed × Appends old new printed))

-- an output grew by what all lines print
abbrev pub PrintsAll : {S : Type 0} → (List ℕ → S → List ℕ → S → Type 0) → S → List ℕ → Option (List ℕ)
    → Option (List ℕ) → Type 0
PrintsAll Step first text old new = PrintsFirst Step first text old new (length (lines_of text))
