-- What the lines of a text print, one after the other.
use Rattle.std.proofs.Common.{◌≡◌, ℕ, ◌+◌, ◌<◌, List, [], ◌++◌, length, get_or, Option, Some, None, refl, ap}
use Rattle.std.proofs.Common.{◌∙◌, add-one, append_assoc, arith, subst, zero-add}
use Rattle.std.specs.Io.KnownBytes.{Appends}
use Rattle.std.specs.List.{enumerate_from}
use Rattle.std.proofs.lemmas.List.{get_or_default}
use Rattle.std.proofs.lemmas.List.FromFn.{get_or-enumerate_from, length-enumerate_from}
use Rattle.rart_lines.specs.Lines.{lines_of}
use Rattle.rart_lines.specs.Runs.{RunsNext, RunsLines}

pub Appends-both : (a b c : Option (List ℕ)) (x y : List ℕ) → Appends a b x → Appends b c y → Appends a c (x ++ y)
Appends-both None b c x y g h = tt
Appends-both (Some xs) None c x y g h = absurd g
Appends-both (Some xs) (Some ys) None x y g h = absurd h
Appends-both (Some xs) (Some ys) (Some zs) x y g h = h ∙ ap (λ l. l ++ y) g ∙ append_assoc xs x y

-- the line of this number is the next, and there is one
abbrev pub IsNext : List ℕ → ℕ → ℕ → List ℕ → Type 0
IsNext text n index line = let all = enumerate_from 0 (lines_of text) in (n < length all)
    × ((index, line) ≡ get_or all n (index, line))

pub record IsLine (text : List ℕ) (n index : ℕ) (line : List ℕ) : Type 0 where
  pub below : n < length (lines_of text)
  pub number : index ≡ n
  pub here : line ≡ get_or (lines_of text) n []

pub is_line : (text : List ℕ) (n index : ℕ) (line : List ℕ) → IsNext text n index line → IsLine text n index line
is_line text n index line h =
    let below : n < length (lines_of text) = omega (arith, length-enumerate_from 0 (lines_of text), h.0) in
    let e : (index, line) ≡ (0 + n, get_or (lines_of text) n line)
    = h.1 ∙ get_or-enumerate_from 0 (lines_of text) n (index, line) below in
    record {
      below = below;
      number = ap (λ (p : ℕ × List ℕ). p.0) e ∙ zero-add n;
      here = ap (λ (p : ℕ × List ℕ). p.1) e ∙ get_or_default (lines_of text) n line [] below;
    }

-- what a loop over the lines keeps: its state and what was printed
pub record HasRun {S : Type 0} (Step : List ℕ → S → List ℕ → S → Type 0) (first : S) (text : List ℕ) (n : ℕ) (state : S)
    (old new : Option (List ℕ)) : Type 0 where
  pub printed : List ℕ
  pub run : RunsLines Step first text n state printed
  pub appends : Appends old new printed

pub lines-next : {S : Type 0} (Step : List ℕ → S → List ℕ → S → Type 0) (first : S) (text : List ℕ) (n index : ℕ)
    (line : List ℕ) (state after : S) (answer : List ℕ) (a b c : Option (List ℕ)) → IsNext text n index line
    → HasRun Step first text n state a b → Step line state answer after → Appends b c answer
    → HasRun Step first text (n + 1) after a c
lines-next Step first text n index line state after answer a b c next h step more =
    let k = is_line text n index line next in
    let run : RunsNext Step (get_or (lines_of text) n []) (RunsLines Step first text n) after (h.printed ++ answer)
    = record {
      old = state;
      earlier = h.printed;
      answer = answer;
      before = h.run;
      step = subst (λ l. Step l state answer after) k.here step;
      prints = refl;
    } in
    record {
      printed = h.printed ++ answer;
      run = rw (add-one n) run;
      appends = Appends-both a b c h.printed answer h.appends more;
    }
