-- When a word writes a value.
use Rattle.std.proofs.Common.{◌≡◌, ℕ, ◌+◌, ◌-◌, ◌*◌, ◌^◌, ◌<◌, ◌≤◌, true, false, List, ◌++◌, length, take, drop, get_or}
use Rattle.std.proofs.Common.{ap, arith, ◌∙◌, take-append-drop, Some, None}
use Rattle.std.specs.Prelude.{nat_lt, map}
use Rattle.std.specs.List.{list_all}
use Rattle.std.specs.Char.{is_ascii_digit, digit_value}
use Rattle.std.specs.Str.Parse.{digits_value}
use Rattle.std.proofs.lemmas.Int.Digits.{digits_value_is, digits_value_more, number_after_append, number_after_ge}
use Rattle.std.proofs.lemmas.List.Folds.{list_all_more}
use Rattle.std.proofs.lemmas.List.{map-append}
use Rattle.std.proofs.lemmas.Bool.Decides.{nat_tests}
use Rattle.std.proofs.lemmas.Str.{digit_value_digit}
use Rattle.std.specs.Int.{IsInRange}
use Rattle.rart_script.specs.Value.{value_of}

digits_value_append : (xs ys : List ℕ) → digits_value 10 xs ≤ digits_value 10 (xs ++ ys)
digits_value_append xs ys = simp (digits_value_is, map-append, number_after_append)
    (number_after_ge 10 _ (map digit_value ys) (omega arith))

-- a number grows with each digit
digits_value_grows : (xs : List ℕ) (i : ℕ) → digits_value 10 (take i xs) ≤ digits_value 10 xs
digits_value_grows xs i = let h = digits_value_append (take i xs) (drop i xs) in rw take-append-drop at h

pub digits_step : (word : List ℕ) (i : ℕ) → i < length word → list_all is_ascii_digit (take i word) ≡ true
    → is_ascii_digit (get_or word i 0) ≡ true → list_all is_ascii_digit (take (i + 1) word) ≡ true
digits_step word i l before here = list_all_more is_ascii_digit word i 0 l ∙ simp (before, here)

digit_value_of : (b : ℕ) → is_ascii_digit b ≡ true → digit_value b ≡ b - 48
digit_value_of b e = let r : IsInRange 48 57 b = grind (arith, nat_tests) in let h = digit_value_digit b r in
    omega (arith, h)

pub number_step : (word : List ℕ) (i : ℕ) → i < length word → is_ascii_digit (get_or word i 0) ≡ true
    → digits_value 10 (take (i + 1) word) ≡ digits_value 10 (take i word) * 10 + (get_or word i 0 - 48)
number_step word i l here = digits_value_more 10 word i l
    ∙ ap (λ d. digits_value 10 (take i word) * 10 + d) (digit_value_of (get_or word i 0) here)

pub too_large : (word : List ℕ) (i : ℕ) → 2 ^ 64 ≤ digits_value 10 (take i word) → value_of word ≡ None
too_large word i l = let k = digits_value_grows word i in let m : nat_lt (digits_value 10 word) (2 ^ 64) ≡ false
    = grind (arith, nat_tests, k) in grind (arith, nat_tests, m)

pub is_value : (word : List ℕ) → 0 < length word → list_all is_ascii_digit word ≡ true → digits_value 10 word < 2 ^ 64
    → value_of word ≡ Some (digits_value 10 word)
is_value word some digits small = grind (arith, nat_tests)
