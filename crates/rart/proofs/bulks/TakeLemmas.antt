-- Calls that give the values of keys, one after the other.
use Rattle.std.proofs.Common.{◌≡◌, ℕ, ◌+◌, zero, suc, List, [], ◌∷◌, ◌++◌, length, arith}
use Rattle.rart.specs.BulkLoads.{CanTake, Takes}

-- the calls that give values
module _ {F V : Type 0} (pre : F → ℕ → Type 0) (step : F → ℕ → V → F → Type 0) where
  pub takes-append : (i j : ℕ) (f m g : F) (xs ys : List V) → j ≡ i + length xs → Takes step i f xs m
      → Takes step j m ys g → Takes step i f (xs ++ ys) g
  takes-append i j f m g [] ys e a b = let s : j ≡ i = omega (arith, e) in rw (a, ← s) b
  takes-append i j f m g (x ∷ xs) ys e a b = (a.0, a.1, takes-append (suc i) j a.0 m g xs ys (omega (arith, e)) a.2 b)

  pub can_take-rest : (i j n k : ℕ) (f g : F) (vs : List V) → j ≡ i + length vs → n ≡ length vs + k
      → CanTake pre step i n f → Takes step i f vs g → CanTake pre step j k g
  can_take-rest i j n k f g [] e s c t = let a : j ≡ i = omega (arith, e) in let b : k ≡ n = omega (arith, s) in
      rw (a, b, ← t) c
  can_take-rest i j zero k f g (v ∷ vs) e s c t = absurd (omega (arith, s))
  can_take-rest i j (suc n) k f g (v ∷ vs) e s c t
      = can_take-rest (suc i) j n k t.0 g vs (omega (arith, e)) (omega (arith, s)) (c.1 v t.0 t.1) t.2
