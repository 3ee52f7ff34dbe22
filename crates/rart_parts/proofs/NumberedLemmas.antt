-- The values of places with the numbers of their places.
use Rattle.std.proofs.Common.{◌≡◌, ℕ, suc, ◌<◌, ◌+◌, ◌^◌, List, [], ◌∷◌, ◌++◌, Option, Some, None, length, sym, ap, ◌∙◌}
use Rattle.std.proofs.Common.{refl, arith}
use Rattle.rart_parts.specs.Places.{numbered_values}

numbered-append : {X : Type 0} (n : ℕ) (os : List (Option X)) (o : Option X)
    → numbered_values n (os ++ o ∷ []) ≡ numbered_values n os ++ numbered_values (n + length os) (o ∷ [])
numbered-append n [] o = let here : n ≡ n + 0 = omega arith in ap (λ m. numbered_values m (o ∷ [])) here
numbered-append n (None ∷ os) o =
    let next : suc n + length os ≡ n + suc (length os) = omega arith in
    numbered-append (suc n) os o ∙ ap (λ m. numbered_values (suc n) os ++ numbered_values m (o ∷ [])) next
numbered-append n (Some x ∷ os) o =
    let next : suc n + length os ≡ n + suc (length os) = omega arith in
    ap (λ l. (n, x) ∷ l) (numbered-append (suc n) os o ∙ ap (λ m. numbered_values (suc n) os ++ numbered_values m
    (o ∷ [])) next)

append_none : {A : Type 0} (xs : List A) → xs ++ [] ≡ xs
append_none [] = refl
append_none (x ∷ xs) = ap (λ l. x ∷ l) (append_none xs)

-- the last place has a value
pub last_used : {X : Type 0} (n : ℕ) (os rest : List (Option X)) (x : X) (all : List (ℕ × X)) → os ≡ rest ++ Some x ∷ []
    → numbered_values n os ≡ all → all ≡ numbered_values n rest ++ (n + length rest, x) ∷ []
last_used n os rest x all e is = sym is ∙ ap (numbered_values n) e ∙ numbered-append n rest (Some x)

length-more : {A : Type 0} (xs : List A) (x : A) → length (xs ++ x ∷ []) ≡ length xs + 1
length-more [] x = refl
length-more (y ∷ xs) x = omega (arith, length-more xs x)

pub one_fewer : {A : Type 0} (all rest : List A) (x : A) → all ≡ rest ++ x ∷ [] → length rest < length all
one_fewer all rest x e = omega (arith, ap length e, length-more rest x)

-- the last place has none
pub last_free : {X : Type 0} (n : ℕ) (os rest : List (Option X)) (all : List (ℕ × X)) → os ≡ rest ++ None ∷ []
    → (n + length os < 2 ^ 64) × (numbered_values n os ≡ all)
    → (n + length rest < 2 ^ 64) × (numbered_values n rest ≡ all)
last_free n os rest all e is = (
  omega (arith, is.0, ap length e, length-more rest None),
  sym (sym is.1 ∙ ap (numbered_values n) e
      ∙ numbered-append n rest None ∙ append_none (numbered_values n rest)),
)
