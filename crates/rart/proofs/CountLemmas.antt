-- Counting by a fold.
use Rattle.std.proofs.Common.{◌≡◌, ℕ, ◌+◌, ◌^◌, ◌<◌, List, [], ◌∷◌, length, length-append, ap, arith}
use Rattle.std.specs.List.{FoldsTo}
use Rattle.rart_trie.specs.walks.Calls.{CallableAtEach}

module _ {F V : Type 0} (R : F × ℕ → V → F × ℕ → Type 0) (step : (p q : F × ℕ) (x : V) → R p x q → q.1 ≡ p.1 + 1) where
  count-from : (p q : F × ℕ) (xs : List V) → FoldsTo R p xs q → q.1 ≡ p.1 + length xs
  count-from p q [] h = omega (arith, ap (λ z. z.1) h)
  count-from p q (x ∷ xs) h = omega (arith, step p h.0 x h.1, count-from h.0 q xs h.2)

  -- each call answers one more: the last answer is the length of the list
  pub count-fold : (f last : F) (n : ℕ) (xs : List V) → FoldsTo R (f, 0) xs (last, n) → n ≡ length xs
  count-fold f last n xs h = omega (arith, count-from (f, 0) (last, n) xs h)

  -- and each number before it has another after it
  pub can-count : (Q : F × ℕ → V → Type 0) → ((p : F × ℕ) (x : V) → p.1 + 1 < 2 ^ 64 → Q p x) → (f : F) (xs : List V)
      → length xs < 2 ^ 64 → CallableAtEach {F = F × ℕ} R Q (f, 0) xs
  can-count Q allocates f xs l = record {
    at = λ before x after g same h. allocates g x
        (omega (arith, l, ap length same, length-append before (x ∷ after), count-from (f, 0) g before h));
  }
