use Rattle.std.proofs.Common.{arith, ◌≡◌, length, drop, subst, sym, ◌∙◌, ap}
use Rattle.std.proofs.lemmas.Bool.{eqb-true, eqb-false}
use Rattle.std.proofs.lemmas.List.{take_rest}
use Rattle.rart_lines.specs.Words.{gap_len}
use Rattle.rart_lines.proofs.WordLemmas.{Begins, begins}
use Rattle.rart_lines.proofs.words.next_word.Goals as goal

pub returns-then-is_empty : goal.returns-then-is_empty
returns-then-is_empty c =
    let e : c.gap_len.result ≡ gap_len c.args.line.now = c.gap_len.ensures.value in
    let h = subst (λ n. Begins c.args.line.now (drop n c.args.line.now)) (sym e) (begins c.args.line.now) in
    let rest = take_rest c.args.line.now c.gap_len.result in
    h.none (ap length (sym rest) ∙ eqb-true _ 0 (sym c.is_empty.ensures ∙ c.if-is_empty.true))

pub returns : goal.returns
returns c =
    let e : c.gap_len.result ≡ gap_len c.args.line.now = c.gap_len.ensures.value in
    let h = subst (λ n. Begins c.args.line.now (drop n c.args.line.now)) (sym e) (begins c.args.line.now) in
    let rest = take_rest c.args.line.now c.gap_len.result in
    let some = eqb-false _ 0 (sym c.is_empty.ensures ∙ c.if-is_empty.false) in
    let found = h.some (omega (arith, ap length rest, some)) in
    let first = c.split_at.ensures.front in
    let others = c.split_at.ensures.back in
    let len = c.word_len.ensures.value in
    cc
