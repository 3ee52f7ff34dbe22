use Rattle.std.proofs.Common.{rules, arith, ◌≡◌, ◌+◌, true, take, get_or, sym, ◌∙◌}
use Rattle.std.specs.Char.{is_ascii_digit}
use Rattle.std.specs.Str.Parse.{digits_value}
use Rattle.std.proofs.lemmas.List.{take_all}
use Rattle.std.specs.List.{list_all}
use Rattle.std.proofs.lemmas.Bool.{eqb-false}
use Rattle.rart_script.proofs.ValueLemmas.{digits_step, number_step, too_large, is_value}
use Rattle.rart_script.proofs.value.parse_value.Goals as goal

pub returns-in_err-checked_mul : goal.returns-in_err-checked_mul
returns-in_err-checked_mul c =
    let digit : is_ascii_digit (get_or c.args.word.now c.loop-byte.byte-index 0) ≡ true = search rules in
    let more = number_step c.args.word.now c.loop-byte.byte-index (omega arith) digit in
    c.from_residual.ensures ∙ sym (too_large c.args.word.now (c.loop-byte.byte-index + 1)
    (omega (arith, more, c.in_err-checked_mul.ensures, c.loop-byte.invariant.number)))

pub returns-in_err-value : goal.returns-in_err-value
returns-in_err-value c =
    let digit : is_ascii_digit (get_or c.args.word.now c.loop-byte.byte-index 0) ≡ true = search rules in
    let more = number_step c.args.word.now c.loop-byte.byte-index (omega arith) digit in
    c.from_residual-in_err-value.ensures ∙ sym
    (too_large c.args.word.now (c.loop-byte.byte-index + 1)
    (omega (
      arith,
      more,
      c.in_ok-checked_mul.ensures,
      c.in_err-value.ensures,
      c.from-digit.ensures,
      c.loop-byte.invariant.number,
    )))

pub loop-byte-preserved : goal.loop-byte-preserved
loop-byte-preserved c =
    let digit : is_ascii_digit (get_or c.args.word.now c.loop-byte.byte-index 0) ≡ true = search rules in
    let more = number_step c.args.word.now c.loop-byte.byte-index (omega arith) digit in
    record {
      digits = digits_step c.args.word.now c.loop-byte.byte-index (omega arith) c.loop-byte.invariant.digits digit;
      small = omega (arith, c.in_ok-value.ensures);
      number = omega (
        arith,
        more,
        c.in_ok-checked_mul.ensures,
        c.in_ok-value.ensures,
        c.from-digit.ensures,
        c.loop-byte.invariant.number,
      );
    }

pub returns : goal.returns
returns c =
    let whole : take c.loop-byte.byte-index c.args.word.now ≡ c.args.word.now = take_all _ _ (omega arith) in
    let digits : list_all is_ascii_digit c.args.word.now ≡ true = rw whole at c.loop-byte.invariant.digits in
    let number : c.loop-byte.value ≡ digits_value 10 c.args.word.now = rw whole at c.loop-byte.invariant.number in
    let some = eqb-false _ 0 (sym c.is_empty.ensures ∙ c.if-is_empty.false) in
    rw number (sym (is_value c.args.word.now (omega (arith, some)) digits
    (omega (arith, number, c.loop-byte.invariant.small))))
