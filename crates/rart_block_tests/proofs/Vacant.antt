-- A slot that held an item is vacant again.
use Rattle.std.proofs.Common.{◌≡◌, ℕ, zero, suc, ◌<◌, List, [], ◌∷◌, Option, None, set, replicate, refl, ap, ◌∙◌, arith}

pub set_twice : {X : Type 0} (xs : List X) (i : ℕ) (a b : X) → set (set xs i a) i b ≡ set xs i b
set_twice [] i a b = refl
set_twice (x ∷ xs) zero a b = refl
set_twice (x ∷ xs) (suc i) a b = ap (λ l. x ∷ l) (set_twice xs i a b)

pub set_apart : {X : Type 0} (xs : List X) (i j : ℕ) (a b : X) → i < j → set (set xs j a) i b ≡ set (set xs i b) j a
set_apart [] i j a b lt = refl
set_apart (x ∷ xs) i zero a b lt = absurd (omega arith)
set_apart (x ∷ xs) zero (suc j) a b lt = refl
set_apart (x ∷ xs) (suc i) (suc j) a b lt = ap (λ l. x ∷ l) (set_apart xs i j a b (omega arith))

pub vacant_again : (X : Type 0) (n i : ℕ) → set (replicate {A = Option X} n None) i None ≡ replicate n None
vacant_again X zero i = refl
vacant_again X (suc n) zero = refl
vacant_again X (suc n) (suc i) = ap (λ l. None ∷ l) (vacant_again X n i)

pub taken_back : {X : Type 0} (os : List (Option X)) (n i : ℕ) (o : Option X) → os ≡ replicate n None
    → set (set os i o) i None ≡ replicate n None
taken_back {X} os n i o e = set_twice os i o None ∙ ap (λ l. set l i None) e ∙ vacant_again X n i
