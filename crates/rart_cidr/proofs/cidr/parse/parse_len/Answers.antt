use Rattle.std.proofs.Common.{◌≡◌, ◌<◌, length, get_or, arith, sym, ◌∙◌, subst}
use Rattle.std.specs.Str.{IsUtf8}
use Rattle.std.proofs.lemmas.Fmt.{IsAscii-decimal}
use Rattle.std.proofs.lemmas.Str.{IsUtf8-from_ascii}
use Rattle.rart_cidr.proofs.networks.TextLemmas.{decimal-read, decimal-unread, first-decimal}
use Rattle.rart_cidr.proofs.cidr.parse.parse_len.Goals as goal
use Rattle.rart_cidr.proofs.cidr.parse.parse_len.Goals.{else-digits-gt1-via-then-digits-gt1+else-digits-le48}
use Rattle.rart_cidr.proofs.cidr.parse.parse_len.Goals.{else-digits-gt1-via-else-digits-gt1}

pub returns-then-digits-le48 : goal.returns-then-digits-le48
returns-then-digits-le48 c n small = first-decimal _ n small (omega (arith, c.if-digits-gt1.true))
    (omega (arith, c.if-digits-le48.true))

pub returns-in_default : goal.returns-in_default
returns-in_default c n small is = c.in_default.ensures.cases.0
    (subst IsUtf8 (sym is) (IsUtf8-from_ascii _ (IsAscii-decimal n (omega arith))))

pub returns-in-Ok-parse : goal.returns-in-Ok-parse
returns-in-Ok-parse c =
    let text : c.in-Ok.digits.now ≡ c.args.digits.now = c.in-Ok.ensures.cases.0 in
    let first : 1 < length c.args.digits.now → 48 < get_or c.args.digits.now 0 0
    = λ long. elim c.else-digits-gt1.branch [
      | else-digits-gt1-via-then-digits-gt1+else-digits-le48 w ↦ omega (arith, w.if-digits-le48.false)
      | else-digits-gt1-via-else-digits-gt1 w ↦ absurd (omega (arith, w.if-digits-gt1.false))
    ] in
    sym text ∙ decimal-read _ _ _ (subst (λ l. 1 < length l → 48 < get_or l 0 0) (sym text) first) c.in-Ok-parse.is
    c.parse.ensures.value.0

pub returns-in-Err : goal.returns-in-Err
returns-in-Err c n small is = decimal-unread _ _ _ c.in-Err.is c.parse.ensures.value.0 n small
    (c.in-Ok.ensures.cases.0 ∙ is)
