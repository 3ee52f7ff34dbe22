-- The order of two byte strings is that of the bytes after what both begin with, or of their lengths.
use Rattle.std.proofs.Common.{◌≡◌, ◌∙◌, ℕ, suc, ◌+◌, ◌<◌, ⊎_elim, Bool, true, false, cond, List, [], ◌∷◌, length}
use Rattle.std.proofs.Common.{get_or, nat_eq, refl, sym, arith}
use Rattle.std.specs.Cmp.Lexicographic.{slice_cmp}
use Rattle.std.specs.List.{common_prefix_len}
use Rattle.std.specs.Ordering.{nat_cmp}
use Rattle.std.proofs.Math.Numerals.{one-add}
use Rattle.std.proofs.lemmas.Bool.{eqb-true, false≢true}
use Rattle.rart_keys.proofs.strings.ByteOrder.{order, is_less, is_equal, is_greater, eq-yes}

decided : (x y : ℕ) (xs ys : List ℕ) → nat_eq x y ≡ false → nat_cmp x y ≡ slice_cmp nat_cmp (x ∷ xs) (y ∷ ys)
decided x y xs ys e = ⊎_elim
    (λ h. rw (is_less x y h) refl)
    (⊎_elim (λ h. absurd (false≢true (sym e ∙ eq-yes x y h))) (λ h. rw (is_greater x y h) refl)) (order x y)

step-at : (x y : ℕ) (xs ys : List ℕ) (n m : ℕ) (b : Bool) → nat_eq x y ≡ b → m ≡ cond b (1 + n) 0
    → (n < length xs → n < length ys → nat_cmp (get_or xs n 0) (get_or ys n 0) ≡ slice_cmp nat_cmp xs ys)
    → m < suc (length xs) → m < suc (length ys) → nat_cmp (get_or (x ∷ xs) m 0) (get_or (y ∷ ys) m 0)
    ≡ slice_cmp nat_cmp (x ∷ xs) (y ∷ ys)
step-at x y xs ys n m true s e ih h k = rw (e, one-add n, is_equal x y (eqb-true _ _ s))
    (ih (omega (arith, e, h)) (omega (arith, e, k)))
step-at x y xs ys n m false s e ih h k = rw e (decided x y xs ys s)

-- both continue after what they share
pub compared-at : (xs ys : List ℕ) (m : ℕ) → m ≡ common_prefix_len nat_eq xs ys → m < length xs → m < length ys
    → nat_cmp (get_or xs m 0) (get_or ys m 0) ≡ slice_cmp nat_cmp xs ys
compared-at [] ys m e h k = absurd (omega arith)
compared-at (x ∷ xs) [] m e h k = absurd (omega arith)
compared-at (x ∷ xs) (y ∷ ys) m e h k = step-at x y xs ys _ m (nat_eq x y) refl e (compared-at xs ys _ refl) h k

compared-suc : (a b : ℕ) → nat_cmp (suc a) (suc b) ≡ nat_cmp a b
compared-suc a b = ⊎_elim
    (λ h. rw (is_less a b h, is_less (suc a) (suc b) (omega arith)) refl)
    (⊎_elim (λ h. rw (is_equal a b h, is_equal (suc a) (suc b) (omega arith)) refl)
    (λ h. rw (is_greater a b h, is_greater (suc a) (suc b) (omega arith)) refl)) (order a b)

step-ended : (x y : ℕ) (xs ys : List ℕ) (n m : ℕ) (b : Bool) → nat_eq x y ≡ b → m ≡ cond b (1 + n) 0
    → ((n < length xs → n < length ys → ⊥) → nat_cmp (length xs) (length ys) ≡ slice_cmp nat_cmp xs ys)
    → (m < suc (length xs) → m < suc (length ys) → ⊥) → nat_cmp (suc (length xs)) (suc (length ys))
    ≡ slice_cmp nat_cmp (x ∷ xs) (y ∷ ys)
step-ended x y xs ys n m true s e ih none
    = rw (is_equal x y (eqb-true _ _ s)) (compared-suc (length xs) (length ys)
    ∙ ih (λ h k. none (omega (arith, e, h)) (omega (arith, e, k))))
step-ended x y xs ys n m false s e ih none = absurd (none (omega (arith, e)) (omega (arith, e)))

-- one of them ends there
pub compared-ended : (xs ys : List ℕ) (m : ℕ) → m ≡ common_prefix_len nat_eq xs ys → (m < length xs → m < length ys → ⊥)
    → nat_cmp (length xs) (length ys) ≡ slice_cmp nat_cmp xs ys
compared-ended [] [] m e none = refl
compared-ended [] (y ∷ ys) m e none = is_less 0 (suc (length ys)) (omega arith)
compared-ended (x ∷ xs) [] m e none = is_greater (suc (length xs)) 0 (omega arith)
compared-ended (x ∷ xs) (y ∷ ys) m e none
    = step-ended x y xs ys _ m (nat_eq x y) refl e (compared-ended xs ys _ refl) none
