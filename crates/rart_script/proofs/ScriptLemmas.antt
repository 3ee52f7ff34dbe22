-- The number of a text's first malformed line.
use Rattle.std.proofs.Common.{◌≡◌, ℕ, ◌+◌, ◌<◌, true, false, cond, List, [], length, get_or, Option, Some, None, ap}
use Rattle.std.proofs.Common.{arith, sym, ◌∙◌, not, below_more}
use Rattle.std.specs.Prelude.{nat_lt}
use Rattle.std.specs.Option.{option_map, is_some}
use Rattle.std.proofs.lemmas.List.FromFn.{length-enumerate_from}
use Rattle.rart.specs.declared.script.call.Call.{Call}
use Rattle.rart_script.specs.Command.{command_of}
use Rattle.rart_lines.specs.Words.{words_of}
use Rattle.std.specs.List.{position_or_len, enumerate_from}
use Rattle.std.proofs.lemmas.List.Sums.{position_or_len_is}
use Rattle.std.proofs.lemmas.Bool.Decides.{nat_tests}
use Rattle.rart_lines.proofs.RunLemmas.{IsNext, is_line}
use Rattle.rart_script.specs.Script.{is_malformed, bad_line}
use Rattle.rart_lines.specs.Lines.{lines_of}

-- each of the first n lines is a command
abbrev pub AreCommands : List ℕ → ℕ → Type 0
AreCommands text n = (k : ℕ) → k < n → is_malformed (get_or (lines_of text) k []) ≡ false

bad_line_none : (text : List ℕ) (n : ℕ) → n ≡ length (lines_of text) → AreCommands text n → bad_line text ≡ None
bad_line_none text n e before =
    let p : position_or_len is_malformed (lines_of text) ≡ n
    = position_or_len_is is_malformed (lines_of text) n [] (omega arith) before (λ l. absurd (omega arith)) in
    let t : nat_lt (position_or_len is_malformed (lines_of text)) (length (lines_of text)) ≡ false
    = grind (arith, nat_tests) in
    simp t

bad_line_some : (text : List ℕ) (n : ℕ) → n < length (lines_of text) → AreCommands text n
    → is_malformed (get_or (lines_of text) n []) ≡ true → bad_line text ≡ Some (n + 1)
bad_line_some text n l before here =
    let p : position_or_len is_malformed (lines_of text) ≡ n
    = position_or_len_is is_malformed (lines_of text) n [] (omega arith) before (λ _. here) in
    let t : nat_lt (position_or_len is_malformed (lines_of text)) (length (lines_of text)) ≡ true
    = grind (arith, nat_tests) in
    ap (λ b. option_map (λ index. index + 1) (cond b (Some (position_or_len is_malformed (lines_of text))) None)) t
    ∙ ap (λ m. Some (m + 1)) p

pub bad_line-at_next : (text : List ℕ) (n index : ℕ) (line : List ℕ) → IsNext text n index line → AreCommands text n
    → command_of (words_of line) ≡ None → bad_line text ≡ Some (index + 1)
bad_line-at_next text n index line h before e =
    let k = is_line text n index line h in
    bad_line_some text n k.below before (ap is_malformed (sym k.here) ∙ ap (λ o. not (is_some o)) e)
    ∙ ap (λ m. Some (m + 1)) (sym k.number)

pub AreCommands-next : (text : List ℕ) (n index : ℕ) (line : List ℕ) (call : Option (Call (List ℕ) ℕ))
    → IsNext text n index line → AreCommands text n → command_of (words_of line) ≡ Some call → AreCommands text (n + 1)
AreCommands-next text n index line call h before e =
    let k = is_line text n index line h in
    below_more _ _ before (ap is_malformed (sym k.here) ∙ ap (λ o. not (is_some o)) e)

pub bad_line-at_end : (text : List ℕ) (n : ℕ) → n ≡ length (enumerate_from 0 (lines_of text)) → AreCommands text n
    → bad_line text ≡ None
bad_line-at_end text n e before = bad_line_none text n (e ∙ length-enumerate_from 0 (lines_of text)) before
