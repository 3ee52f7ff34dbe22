-- Places without a value.
use Rattle.std.proofs.Common.{◌≡◌, List, [], ◌∷◌, ◌++◌, Option, Some, None, length, sym, ap, ◌∙◌, refl, arith}
use Rattle.std.proofs.lemmas.List.{length-append}
use Rattle.rart_parts.specs.Places.{values_in}

values_in-last : {X : Type 0} (os : List (Option X)) (o : Option X)
    → values_in (os ++ o ∷ []) ≡ values_in os ++ values_in (o ∷ [])
values_in-last [] o = refl
values_in-last (None ∷ os) o = values_in-last os o
values_in-last (Some x ∷ os) o = ap (λ l. x ∷ l) (values_in-last os o)

-- of places without a value the last has none
pub last_valueless : {X : Type 0} (os rest : List (Option X)) (x : X) → os ≡ rest ++ Some x ∷ [] → values_in os ≡ [] → ⊥
last_valueless os rest x e h = omega (
  arith,
  ap length (sym h ∙ ap values_in e ∙ values_in-last rest (Some x)),
  length-append (values_in rest) (x ∷ []),
)

append_none : {A : Type 0} (xs : List A) → xs ++ [] ≡ xs
append_none [] = refl
append_none (x ∷ xs) = ap (λ l. x ∷ l) (append_none xs)

-- and so have the others
pub rest_valueless : {X : Type 0} (os rest : List (Option X)) → os ≡ rest ++ None ∷ [] → values_in os ≡ []
    → values_in rest ≡ []
rest_valueless os rest e h = sym (append_none (values_in rest)) ∙ sym (values_in-last rest None) ∙ ap values_in (sym e)
    ∙ h
