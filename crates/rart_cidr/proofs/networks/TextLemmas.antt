-- Which digits write a length.
use Rattle.std.proofs.Common.{◌≡◌, ◌≢◌, ℕ, zero, suc, ◌<◌, ◌≤◌, ◌^◌, List, [], ◌∷◌, length, get_or, decimal, Result, Ok}
use Rattle.std.proofs.Common.{Err, Option, Some, ap, arith, sym, subst, ◌∙◌, ne_eqb}
use Rattle.std.specs.Str.Parse.{IsNumeral, ParsesUnsigned, digits_value, without_leading_plus}
use Rattle.std.proofs.lemmas.Fmt.{decimal-digits_value, decimal_digit, decimal_injective, first_decimal, parse-decimal}
use Rattle.std.proofs.lemmas.Str.Parse.{numerals_by_value, tells_digits}

-- a number of two digits or more begins with another digit than 0
pub first-decimal : (digits : List ℕ) (n : ℕ) → n < 2 ^ 8 → 1 < length digits → get_or digits 0 0 ≤ 48
    → digits ≢ decimal n
first-decimal digits zero small long low is = omega (arith, ap length (is ∙ decimal_digit 0 (omega arith)))
first-decimal digits (suc n) small long low is
    = omega (arith, ap (λ l. get_or l 0 0) is, first_decimal (suc n) (omega arith) (omega arith))

same_numeral : (digits : List ℕ) → (1 < length digits → 48 < get_or digits 0 0)
    → IsNumeral 10 (without_leading_plus digits) → without_leading_plus digits ≡ digits
same_numeral [] first h = absurd (omega (arith, h.0))
same_numeral (c ∷ []) first h = plus c h
  where
    plus : (c : ℕ) → IsNumeral 10 (without_leading_plus (c ∷ [])) → without_leading_plus (c ∷ []) ≡ c ∷ []
    plus c h = grind (arith, h)
same_numeral (c ∷ d ∷ cs) first h = simp (ne_eqb c 43 (omega (arith, first (omega arith))))

parsed_ok : {E : Type 0} (k : ℕ) (digits : List ℕ) (r : Result ℕ E) (n : ℕ) → r ≡ Ok n → ParsesUnsigned k 10 digits r
    → (IsNumeral 10 (without_leading_plus digits) × (digits_value 10 (without_leading_plus digits) < 2 ^ k))
    × (n ≡ digits_value 10 (without_leading_plus digits))
parsed_ok k digits r n is h = subst (λ q. ParsesUnsigned k 10 digits q) is h

-- digits that are read as a number write it, if the first of two or more isn't 0 or a sign
pub decimal-read : {E : Type 0} (digits : List ℕ) (r : Result ℕ E) (n : ℕ)
    → (1 < length digits → 48 < get_or digits 0 0) → r ≡ Ok n → ParsesUnsigned 8 10 digits r → digits ≡ decimal n
decimal-read digits r n first is parsed =
    let h = parsed_ok 8 digits r n is parsed in
    let same = same_numeral digits first h.0.0 in
    let numeral = subst (IsNumeral 10) same h.0.0 in
    let value : n ≡ digits_value 10 digits = h.1 ∙ ap (digits_value 10) same in
    let small : digits_value 10 digits < 2 ^ 64 = omega (arith, h.0.1, ap (digits_value 10) same) in
    sym (ap decimal value ∙ decimal-digits_value (numerals_by_value _ tells_digits) digits numeral.1 numeral.0
    (alone digits first) small)
  where
    alone : (digits : List ℕ) → (1 < length digits → 48 < get_or digits 0 0) → get_or digits 0 0 ≡ 48
        → length digits ≡ 1
    alone [] first e = absurd (omega (arith, e))
    alone (c ∷ []) first e = omega arith
    alone (c ∷ d ∷ cs) first e = absurd (omega (arith, first (omega arith), e))

-- digits that aren't read as a number write none
pub decimal-unread : {E : Type 0} (digits : List ℕ) (r : Result ℕ E) (e : E) → r ≡ Err e
    → ParsesUnsigned 8 10 digits r → (n : ℕ) → n < 2 ^ 8 → digits ≢ decimal n
decimal-unread digits r e is parsed n small spelled =
    let read = parse-decimal 8 n digits r small (omega arith) spelled parsed in cc

decimal-too_large : (digits : List ℕ) (m n most : ℕ) → digits ≡ decimal m → m < 2 ^ 8 → most < m → n ≤ most
    → digits ≢ decimal n
decimal-too_large digits m n most is small over within other
    = omega (arith, decimal_injective m n (omega arith) (omega arith) (sym is ∙ other))

-- a number that is too large for the address is no other number
pub length-too_large : (part : Option (List ℕ)) (digits : List ℕ) (m most : ℕ) → part ≡ Some digits
    → digits ≡ decimal m → m < 2 ^ 8 → most < m → (n : ℕ) → n ≤ most → part ≢ Some (decimal n)
length-too_large part digits m most is spelled small over n within other =
    let same : Some digits ≡ Some (decimal n) = sym is ∙ other in
    decimal-too_large digits m n most spelled small over within (cc same)
